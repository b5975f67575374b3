-- The event table, a row for each kind (01, "Events").
use Rattle.std.specs.Prelude.{ℕ, Bool, true, false, cond, List, [], ◌∷◌, eqb}
use Rattle.words.specs.Among.{beside, has_beside}
use Rattle.phases.specs.Phase as Phase
use Rattle.phases.specs.Kind as Kind
use Rattle.cards.specs.Cards.{card_in}
use Rattle.bus.specs.declared.state.Bus.{Bus}
use Rattle.bus.specs.declared.step.Step.{Step}
use Rattle.judgement.specs.declared.event.Event.{Event}

-- an event, field by field
abbrev pub event_of : ℕ → ℕ → ℕ → ℕ → Event
event_of kind speaker address datum = record { kind = kind; speaker = speaker; address = address; datum = datum }

-- ---- What stands in the columns

-- the permanent master's number as a speaker
abbrev pub permanent_master : ℕ
permanent_master = 0x10

-- whom a listed speaker has to be
pub data Speaker : Type 0 where
  unlisted : Speaker
  contender : Speaker
  granted_card : Speaker
  -- whoever has the phase's cycles
  master : Speaker

-- who has the cycles, in a phase that allows any: the granted card where it owns the bus, and else the permanent master
abbrev pub master_of : Bus → ℕ
master_of bus = cond (eqb bus.phase Phase.owned) bus.granted permanent_master

-- the speaker is whom the column asks for
abbrev pub has_turn : Speaker → Bus → ℕ → Bool
has_turn unlisted bus speaker = true
has_turn contender bus speaker = card_in bus.contenders speaker
has_turn granted_card bus speaker = eqb speaker bus.granted
has_turn master bus speaker = eqb speaker (master_of bus)

-- the column lists a speaker
abbrev pub is_listed : Speaker → Bool
is_listed unlisted = false
is_listed contender = true
is_listed granted_card = true
is_listed master = true

-- the address: listed, or to be zero
abbrev pub listed : Bool
listed = true

abbrev pub blank : Bool
blank = false

-- the datum, by the most that it may be: zero where it isn't listed
abbrev pub no_datum : ℕ
no_datum = 0

abbrev pub one_byte : ℕ
one_byte = 0xFF

abbrev pub sixteen_bits : ℕ
sixteen_bits = 0xFFFF

-- the phases, as a test; has_cycles, of phases, is one too
abbrev pub only : ℕ → ℕ → Bool
only allowed phase = eqb phase allowed

abbrev pub any_phase : ℕ → Bool
any_phase phase = true

abbrev pub no_phase : ℕ → Bool
no_phase phase = false

-- ---- The table

-- what an event of a kind is judged by, and its step
pub record Row : Type 0 where
  pub speaker : Speaker
  pub address : Bool
  pub most : ℕ
  pub allows : ℕ → Bool
  pub step : Step

abbrev pub row : Speaker → Bool → ℕ → (ℕ → Bool) → Step → Row
row speaker address most allows step =
    record { speaker = speaker; address = address; most = most; allows = allows; step = step }

abbrev pub table : List (ℕ × Row)
table =
    -- kind; speaker, address, datum, phase, step
    (Kind.request, row unlisted blank sixteen_bits (only Phase.free) Step.Request)
    ∷ (Kind.look, row contender blank no_datum (only Phase.arbitration) Step.Look)
    ∷ (Kind.acknowledge, row unlisted blank no_datum (only Phase.arbitration) Step.Acknowledge)
    ∷ (Kind.begin_transfer_one, row granted_card blank no_datum (only Phase.granted) Step.BeginTransferOne)
    ∷ (Kind.take_bus, row granted_card blank no_datum (only Phase.transfer_one) Step.TakeBus)
    ∷ (Kind.byte_read, row master listed no_datum Phase.has_cycles Step.Cycle)
    ∷ (Kind.opcode_fetch, row master listed no_datum Phase.has_cycles Step.Cycle)
    ∷ (Kind.byte_write, row master listed one_byte Phase.has_cycles Step.Cycle)
    ∷ (Kind.word_read, row master listed no_datum Phase.has_cycles Step.Cycle)
    ∷ (Kind.word_write, row master listed sixteen_bits Phase.has_cycles Step.Cycle)
    ∷ (Kind.input, row master listed no_datum Phase.has_cycles Step.Cycle)
    ∷ (Kind.output, row master listed one_byte Phase.has_cycles Step.Cycle)
    ∷ (Kind.begin_transfer_two, row granted_card blank no_datum (only Phase.owned) Step.BeginTransferTwo)
    ∷ (Kind.give_back, row granted_card blank no_datum (only Phase.transfer_two) Step.GiveBack)
    ∷ (Kind.reset, row unlisted blank no_datum any_phase Step.Reset)
    ∷ []

-- a kind that isn't in the table lists nothing; no phase allows it, so that the step which stands here is never taken
abbrev pub no_row : Row
no_row = row unlisted blank no_datum no_phase Step.Reset

abbrev pub has_row : ℕ → Bool
has_row kind = has_beside kind table

abbrev pub row_of : ℕ → Row
row_of kind = beside kind table no_row

-- ---- What is asked of a row

abbrev pub lists_speaker : ℕ → Bool
lists_speaker kind = is_listed (row_of kind).speaker

abbrev pub lists_address : ℕ → Bool
lists_address kind = (row_of kind).address

abbrev pub most_datum : ℕ → ℕ
most_datum kind = (row_of kind).most

abbrev pub is_cycle_step : Step → Bool
is_cycle_step Step.Request = false
is_cycle_step Step.Look = false
is_cycle_step Step.Acknowledge = false
is_cycle_step Step.BeginTransferOne = false
is_cycle_step Step.TakeBus = false
is_cycle_step Step.Cycle = true
is_cycle_step Step.BeginTransferTwo = false
is_cycle_step Step.GiveBack = false
is_cycle_step Step.Reset = false

-- an event of this kind is a cycle of some master's
abbrev pub is_cycle : ℕ → Bool
is_cycle kind = is_cycle_step (row_of kind).step
