-- The event table read the other way round, and events on small states, each with the refusal that 01 gives it or 0.
use Rattle.std.specs.Prelude.{ℕ, zero, suc, ◌≡◌, Bool, cond, List, [], ◌∷◌, eqb, ltb, replicate, set}
use Rattle.phases.specs.Phase as Phase
use Rattle.phases.specs.Kind as Kind
use Rattle.bus.specs.State.{chassis, free_bus, nobody, silent, state_of}
use Rattle.bus.specs.declared.state.Bus.{Bus}
use Rattle.bus.specs.declared.step.Step.{Step}
use Rattle.judgement.specs.Table.{event_of, has_row, row_of, lists_speaker, lists_address, most_datum, is_cycle}
use Rattle.judgement.specs.Judge.{sound_refusal}

-- ---- Columns

-- of the numbers below a bound, those that pass, the highest first
unfoldable pub kinds_below : (ℕ → Bool) → ℕ → List ℕ
kinds_below test zero = []
kinds_below test (suc k) = cond (test k) (k ∷ kinds_below test k) (kinds_below test k)

abbrev pub kinds_of : (ℕ → Bool) → List ℕ
kinds_of test = kinds_below test (suc (suc Kind.last))

pub record Columns : Type 0 where
  pub kinds : kinds_of has_row ≡ 0x0F ∷ 0x0E ∷ 0x0D ∷ 0x0C ∷ 0x0B ∷ 0x0A ∷ 0x09 ∷ 0x08 ∷ 0x07 ∷ 0x06 ∷ 0x05 ∷ 0x04 ∷ 0x03 ∷ 0x02 ∷ 0x01 ∷ []
  pub speaker : kinds_of lists_speaker ≡ 0x0E ∷ 0x0D ∷ 0x0C ∷ 0x0B ∷ 0x0A ∷ 0x09 ∷ 0x08 ∷ 0x07 ∷ 0x06 ∷ 0x05 ∷ 0x04 ∷ 0x02 ∷ []
  pub address : kinds_of lists_address ≡ 0x0C ∷ 0x0B ∷ 0x0A ∷ 0x09 ∷ 0x08 ∷ 0x07 ∷ 0x06 ∷ []
  pub datum : kinds_of (λ k. ltb 0 (most_datum k)) ≡ 0x0C ∷ 0x0A ∷ 0x08 ∷ 0x01 ∷ []
  -- of those with a datum, the kinds that take at most a byte, and those that take any sixteen bits
  pub bytes : kinds_of (λ k. eqb (most_datum k) 0xFF) ≡ 0x0C ∷ 0x08 ∷ []
  pub wide : kinds_of (λ k. eqb (most_datum k) 0xFFFF) ≡ 0x0A ∷ 0x01 ∷ []
  pub cycles : kinds_of is_cycle ≡ 0x0C ∷ 0x0B ∷ 0x0A ∷ 0x09 ∷ 0x08 ∷ 0x07 ∷ 0x06 ∷ []
  -- the kinds that each phase allows
  pub free : kinds_of (λ k. (row_of k).allows Phase.free) ≡ 0x0F ∷ 0x0C ∷ 0x0B ∷ 0x0A ∷ 0x09 ∷ 0x08 ∷ 0x07 ∷ 0x06 ∷ 0x01 ∷ []
  pub arbitration : kinds_of (λ k. (row_of k).allows Phase.arbitration)
      ≡ 0x0F ∷ 0x0C ∷ 0x0B ∷ 0x0A ∷ 0x09 ∷ 0x08 ∷ 0x07 ∷ 0x06 ∷ 0x03 ∷ 0x02 ∷ []
  pub granted : kinds_of (λ k. (row_of k).allows Phase.granted) ≡ 0x0F ∷ 0x04 ∷ []
  pub transfer_one : kinds_of (λ k. (row_of k).allows Phase.transfer_one) ≡ 0x0F ∷ 0x05 ∷ []
  pub owned : kinds_of (λ k. (row_of k).allows Phase.owned) ≡ 0x0F ∷ 0x0D ∷ 0x0C ∷ 0x0B ∷ 0x0A ∷ 0x09 ∷ 0x08 ∷ 0x07 ∷ 0x06 ∷ []
  pub transfer_two : kinds_of (λ k. (row_of k).allows Phase.transfer_two) ≡ 0x0F ∷ 0x0E ∷ []

-- the step of each kind
pub record StepColumn : Type 0 where
  pub asking : (row_of 0x01).step ∷ (row_of 0x02).step ∷ (row_of 0x03).step ∷ (row_of 0x04).step ∷ (row_of 0x05).step ∷ []
      ≡ Step.Request ∷ Step.Look ∷ Step.Acknowledge ∷ Step.BeginTransferOne ∷ Step.TakeBus ∷ []
  pub cycles : (row_of 0x06).step ∷ (row_of 0x07).step ∷ (row_of 0x08).step ∷ (row_of 0x09).step ∷ (row_of 0x0A).step ∷ (row_of 0x0B).step ∷
      (row_of 0x0C).step ∷ []
      ≡ replicate 7 Step.Cycle
  pub ending : (row_of 0x0D).step ∷ (row_of 0x0E).step ∷ (row_of 0x0F).step ∷ [] ≡ Step.BeginTransferTwo ∷ Step.GiveBack ∷ Step.Reset ∷ []

-- ---- States: cards 1 and 3 fitted; page 0 has eight bits, page 1 sixteen, and there are no others

abbrev pub codes : List ℕ
codes = 1 ∷ 2 ∷ replicate 14 0

abbrev pub free : Bus
free = free_bus (chassis 0x000A codes)

-- both contend, and the lines show 3, card 3's number; card 1 has yet to take back its 1
abbrev pub unsettled : Bus
unsettled = state_of 0x000A codes Phase.arbitration 0x000A (set (set silent 1 1) 3 3) nobody

abbrev pub settled : Bus
settled = state_of 0x000A codes Phase.arbitration 0x000A (set silent 3 3) nobody

-- card 0, fitted instead, contends alone, and the lines stay at 0
abbrev pub zero_alone : Bus
zero_alone = state_of 0x0001 codes Phase.arbitration 0x0001 silent nobody

abbrev pub three_alone : Bus
three_alone = state_of 0x000A codes Phase.arbitration 0x0008 silent nobody

-- card 3 is granted, in this phase
abbrev pub three_granted : ℕ → Bus
three_granted phase = state_of 0x000A codes phase 0 silent 3

-- ---- Events and their refusals

-- the refusal of an event with these fields
abbrev pub judged : Bus → ℕ → ℕ → ℕ → ℕ → ℕ
judged bus kind speaker address datum = sound_refusal bus (event_of kind speaker address datum)

pub record Fields : Type 0 where
  pub kind_zero : judged free 0x00 0 0 0 ≡ 0x03
  pub kind_past_last : judged free (suc Kind.last) 0 0 0 ≡ 0x03
  pub speaker_above : judged free 0x06 0x11 0 0 ≡ 0x03
  pub stray_speaker : judged free 0x01 0x10 0 0x0002 ≡ 0x03
  pub stray_address : judged free 0x01 0 1 0x0002 ≡ 0x03
  pub stray_datum : judged free 0x06 0x10 0 1 ≡ 0x03
  pub wide_byte : judged free 0x08 0x10 0 0x0100 ≡ 0x03
  pub wide_output : judged free 0x0C 0x10 0 0x0100 ≡ 0x03
  pub byte : judged free 0x08 0x10 0 0x00FF ≡ 0x00
  pub output : judged free 0x0C 0x10 0 0x00FF ≡ 0x00
  pub word : judged free 0x0A 0x10 0 0xFFFF ≡ 0x00
  pub stray_look_address : judged settled 0x02 1 1 0 ≡ 0x03
  pub stray_acknowledge_speaker : judged settled 0x03 1 0 0 ≡ 0x03
  pub stray_reset_datum : judged free 0x0F 0 0 1 ≡ 0x03
  pub stray_word_read_datum : judged free 0x09 0x10 0 1 ≡ 0x03
  -- malformed before unfitted
  pub both : judged free 0x06 2 0 1 ≡ 0x03

pub record Cards : Type 0 where
  pub request : judged free 0x01 0 0 0x000A ≡ 0x00
  pub nobody : judged free 0x01 0 0 0x0000 ≡ 0x04
  pub unfitted : judged free 0x01 0 0 0x0006 ≡ 0x05
  -- unfitted before the phase, whatever the kind
  pub look : judged free 0x02 2 0 0 ≡ 0x05
  pub cycle : judged (three_granted Phase.granted) 0x06 2 0 0 ≡ 0x05
  pub give_back : judged (three_granted Phase.transfer_two) 0x0E 2 0 0 ≡ 0x05
  pub last_card : judged free 0x06 15 0 0 ≡ 0x05
  -- the permanent master is no card
  pub master : judged free 0x06 0x10 0 0 ≡ 0x00
  pub master_looks : judged free 0x02 0x10 0 0 ≡ 0x06
  pub master_looks_then : judged settled 0x02 0x10 0 0 ≡ 0x07

-- Where two reasons apply, the lower number is given.
pub record Order : Type 0 where
  pub stray_nobody : judged free 0x01 1 0 0x0000 ≡ 0x03
  pub stray_unfitted : judged free 0x06 2 0 1 ≡ 0x03
  pub stray_unsettled : judged unsettled 0x03 1 0 0 ≡ 0x03
  pub nobody_later : judged settled 0x01 0 0 0x0000 ≡ 0x04
  pub unfitted_later : judged settled 0x01 0 0 0x0004 ≡ 0x05
  pub idle_too_early : judged free 0x02 1 0 0 ≡ 0x06
  pub odd_of_a_card : judged free 0x09 1 0x001001 0 ≡ 0x07
  pub absent_of_a_card : judged free 0x06 1 0x002000 0 ≡ 0x07
  pub odd_and_absent : judged free 0x09 0x10 0x002001 0 ≡ 0x09

pub record Turns : Type 0 where
  pub look_when_free : judged free 0x02 1 0 0 ≡ 0x06
  pub look : judged settled 0x02 1 0 0 ≡ 0x00
  -- card 1 is fitted, and card 3 contends alone
  pub idle_look : judged three_alone 0x02 1 0 0 ≡ 0x07
  pub second_request : judged settled 0x01 0 0 0x0002 ≡ 0x06
  pub request_in_transfer_two : judged (three_granted Phase.transfer_two) 0x01 0 0 0x0002 ≡ 0x06
  pub acknowledge : judged settled 0x03 0 0 0 ≡ 0x00
  -- the lines name card 3, and still
  pub unsettled_three : judged unsettled 0x03 0 0 0 ≡ 0x08
  pub zero_contends : judged zero_alone 0x03 0 0 0 ≡ 0x00
  pub begin : judged (three_granted Phase.granted) 0x04 3 0 0 ≡ 0x00
  pub begin_other : judged (three_granted Phase.granted) 0x04 1 0 0 ≡ 0x07
  pub take_early : judged (three_granted Phase.granted) 0x05 3 0 0 ≡ 0x06
  pub take_then : judged (three_granted Phase.transfer_one) 0x05 3 0 0 ≡ 0x00
  pub begin_two : judged (three_granted Phase.owned) 0x0D 3 0 0 ≡ 0x00
  pub give_back : judged (three_granted Phase.transfer_two) 0x0E 3 0 0 ≡ 0x00
  pub reset : judged (three_granted Phase.transfer_two) 0x0F 0 0 0 ≡ 0x00
  -- whose cycles they are
  pub card_when_free : judged free 0x06 1 0 0 ≡ 0x07
  pub master_in_arbitration : judged settled 0x06 0x10 0 0 ≡ 0x00
  pub card_when_granted : judged (three_granted Phase.granted) 0x06 3 0 0 ≡ 0x06
  pub card_owns : judged (three_granted Phase.owned) 0x06 3 0 0 ≡ 0x00
  pub other_card : judged (three_granted Phase.owned) 0x06 1 0 0 ≡ 0x07
  pub master_when_owned : judged (three_granted Phase.owned) 0x06 0x10 0 0 ≡ 0x07
  -- the phase before the turn
  pub phase_first : judged (three_granted Phase.transfer_two) 0x06 0x10 0 0 ≡ 0x06

pub record Addresses : Type 0 where
  pub odd_word : judged free 0x09 0x10 0x001001 0 ≡ 0x09
  pub odd_byte : judged free 0x06 0x10 0x001001 0 ≡ 0x00
  -- odd before absent, and beyond the memory
  pub odd_absent : judged free 0x0A 0x10 0x002001 0x1234 ≡ 0x09
  pub odd_beyond : judged free 0x09 0x10 0x010001 0 ≡ 0x09
  pub last_word : judged free 0x0A 0x10 0x001FFE 0x1234 ≡ 0x00
  pub absent : judged free 0x06 0x10 0x002000 0 ≡ 0x0A
  pub absent_word : judged free 0x09 0x10 0x00FFFE 0 ≡ 0x0A
  pub absent_fetch : judged free 0x07 0x10 0x002000 0 ≡ 0x0A
  pub absent_byte_write : judged free 0x08 0x10 0x002000 0x0012 ≡ 0x0A
  pub absent_write : judged free 0x0A 0x10 0x002000 0x1234 ≡ 0x0A
  pub beyond : judged free 0x08 0x10 0x010000 0x0012 ≡ 0x0A
  pub last_port : judged free 0x0B 0x10 0x0000FF 0 ≡ 0x00
  pub port_beyond : judged free 0x0B 0x10 0x000100 0 ≡ 0x0A
  pub out_beyond : judged free 0x0C 0x10 0x000100 0x0012 ≡ 0x0A
