-- Runs of steps on small states: the looks of 4, 9 and 10 and settle over them (01, "Marked for proof", M1 to M8), the states of 01's printed
-- run, a request in transfer two, and states that make no sense.
use Rattle.std.specs.Prelude.{ℕ, suc, ◌≡◌, true, false, List, [], ◌∷◌, ◌++◌, get_or, replicate}
use Rattle.phases.specs.Phase as Phase
use Rattle.phases.specs.Signal.{signals_in}
use Rattle.bus.specs.Refusal as Refusal
use Rattle.bus.specs.State.{chassis, free_bus, nobody, silent, state_of, with_pages, lines_of, is_settled}
use Rattle.bus.specs.Sense.{makes_sense}
use Rattle.bus.specs.Setup.{setup_of}
use Rattle.bus.specs.Steps.{requested, looked_by, after_looks_of, acknowledged}
use Rattle.bus.specs.Settle.{settle_of}
use Rattle.bus.specs.Step.{step_by}
use Rattle.bus.specs.declared.state.Bus.{Bus}
use Rattle.bus.specs.declared.step.Step.{Step}

-- ---- Cards 4, 9 and 10 contend, nobody drives (M1 to M6)

-- sixteen eight-bit pages
abbrev pub eight_bit : List ℕ
eight_bit = replicate 16 1

-- these cards contend, nobody driving
abbrev pub contending : ℕ → Bus
contending cards = requested (free_bus (chassis 0xFFFF eight_bit)) cards

abbrev pub four_nine_ten : Bus
four_nine_ten = contending 0x0610

abbrev pub first : List ℕ
first = 4 ∷ 9 ∷ 10 ∷ []

abbrev pub again : List ℕ
again = 9 ∷ 10 ∷ 4 ∷ []

pub record RoundsOnTheBus : Type 0 where
  pub start : four_nine_ten ≡ state_of 0xFFFF eight_bit Phase.arbitration 0x0610 silent nobody
  pub one : lines_of (after_looks_of four_nine_ten first) ≡ 12
  pub two : lines_of (after_looks_of four_nine_ten (first ++ again)) ≡ 8
  pub three : lines_of (after_looks_of four_nine_ten (first ++ again ++ again)) ≡ 11
  -- an acknowledge after three rounds changes nothing
  pub three_refused : acknowledged (after_looks_of four_nine_ten (first ++ again ++ again)) ≡ after_looks_of four_nine_ten (first ++ again ++ again)
  pub four : lines_of (after_looks_of four_nine_ten (first ++ again ++ again ++ again)) ≡ 10
  -- and after four it grants 10
  pub grant : acknowledged (after_looks_of four_nine_ten (first ++ again ++ again ++ again)) ≡ state_of 0xFFFF eight_bit Phase.granted 0 silent 10

pub record SettleOnTheBus : Type 0 where
  -- M5: the twelve looks, of which ten are taken
  pub twelve : (settle_of four_nine_ten (first ++ again ++ again ++ again)).looks ≡ 10
  pub twelve_accepted : (settle_of four_nine_ten (first ++ again ++ again ++ again)).answer ≡ Refusal.accepted
  pub twelve_lines : lines_of (settle_of four_nine_ten (first ++ again ++ again ++ again)).bus ≡ 10
  -- M6: the first nine
  pub nine : settle_of four_nine_ten (first ++ again ++ again) ≡ record { answer = Refusal.unsettled; bus = four_nine_ten; looks = 0 }
  -- M7 and M8: card 0 alone, and card 1 alone
  pub card_zero : (settle_of (requested (free_bus (chassis 0x0001 eight_bit)) 0x0001) []).answer ≡ Refusal.accepted
  pub card_zero_looks : (settle_of (requested (free_bus (chassis 0x0001 eight_bit)) 0x0001) (0 ∷ [])).looks ≡ 0
  pub card_one_looks : (settle_of (requested (free_bus (chassis 0x0002 eight_bit)) 0x0002) (1 ∷ 1 ∷ [])).looks ≡ 1
  -- an empty list doesn't settle card 1's lines
  pub card_one_unsettled : (settle_of (requested (free_bus (chassis 0x0002 eight_bit)) 0x0002) []).answer ≡ Refusal.unsettled

-- Each refusal of settle, where those after it would apply too.
pub record SettleRefusals : Type 0 where
  pub senseless : (settle_of (state_of 0x0002 (replicate 16 3) Phase.free 0 silent nobody) (16 ∷ [])).answer ≡ 0x02
  pub malformed : (settle_of (free_bus (chassis 0x0002 eight_bit)) (3 ∷ 16 ∷ [])).answer ≡ 0x03
  pub unfitted : (settle_of (free_bus (chassis 0x0002 eight_bit)) (1 ∷ 3 ∷ [])).answer ≡ 0x05
  pub elsewhere : (settle_of (free_bus (chassis 0x0002 eight_bit)) (1 ∷ [])).answer ≡ 0x06
  -- the whole list is judged, also where the lines are settled before any look
  pub idle : (settle_of (requested (free_bus (chassis 0x0003 eight_bit)) 0x0001) (0 ∷ 1 ∷ [])).answer ≡ 0x07
  pub unsettled : (settle_of (requested (free_bus (chassis 0x0003 eight_bit)) 0x0002) []).answer ≡ 0x08

-- ---- 01's printed run, without its cycles

abbrev pub pages : List ℕ
pages = 1 ∷ 2 ∷ replicate 14 0

abbrev pub set_up : Bus
set_up = (setup_of (chassis 0x000A pages)).bus

-- a step of this speaker with this datum
abbrev pub taking : Step → ℕ → ℕ → Bus → Bus
taking step speaker datum bus = step_by step bus speaker datum

-- in transfer two HOLD is false, and the request is made all the same
abbrev pub the_run : List (Bus → Bus)
the_run =
    taking Step.Request 0 0x000A ∷ taking Step.Look 1 0 ∷ taking Step.Look 3 0 ∷ taking Step.Acknowledge 0x10 0 ∷ taking Step.Look 1 0
    ∷ taking Step.Acknowledge 0x10 0 ∷ taking Step.BeginTransferOne 3 0 ∷ taking Step.TakeBus 3 0 ∷ taking Step.BeginTransferTwo 3 0
    ∷ taking Step.Request 0 0x0002 ∷ taking Step.GiveBack 3 0 ∷ []

-- four of an answer's columns: phase, granted card, lines, signals
abbrev pub columns : Bus → List ℕ
columns bus = bus.phase ∷ bus.granted ∷ lines_of bus ∷ signals_in bus.phase ∷ []

-- those of the first state, and of the state after each step
abbrev pub columns_of : Bus → List (Bus → Bus) → List (List ℕ)
columns_of bus [] = columns bus ∷ []
columns_of bus (step ∷ steps) = columns bus ∷ columns_of (step bus) steps

pub record PrintedRun : Type 0 where
  pub at_first : setup_of (chassis 0x000A pages) ≡ record { answer = Refusal.accepted; bus = state_of 0x000A pages Phase.free 0 silent 0xFF }
  pub as_printed : columns_of set_up the_run
      ≡ (0x00 ∷ 0xFF ∷ 0x00 ∷ 0x00 ∷ [])
      ∷ (0x01 ∷ 0xFF ∷ 0x00 ∷ 0x01 ∷ [])
      ∷ (0x01 ∷ 0xFF ∷ 0x01 ∷ 0x01 ∷ [])
      ∷ (0x01 ∷ 0xFF ∷ 0x03 ∷ 0x01 ∷ [])
      ∷ (0x01 ∷ 0xFF ∷ 0x03 ∷ 0x01 ∷ [])
      ∷ (0x01 ∷ 0xFF ∷ 0x03 ∷ 0x01 ∷ [])
      ∷ (0x02 ∷ 0x03 ∷ 0x00 ∷ 0x03 ∷ [])
      ∷ (0x03 ∷ 0x03 ∷ 0x00 ∷ 0x1F ∷ [])
      ∷ (0x04 ∷ 0x03 ∷ 0x00 ∷ 0x3F ∷ [])
      ∷ (0x05 ∷ 0x03 ∷ 0x00 ∷ 0x1E ∷ [])
      ∷ (0x05 ∷ 0x03 ∷ 0x00 ∷ 0x1E ∷ [])
      ∷ (0x00 ∷ 0xFF ∷ 0x00 ∷ 0x00 ∷ [])
      ∷ []
  -- given back, the bus is what it was at first
  pub back : taking Step.GiveBack 3 0 (state_of 0x000A pages Phase.transfer_two 0 silent 3) ≡ set_up

-- ---- Card 0, and a card's own bits

-- card 1 alone contends, and drives 2, which it should not
abbrev pub stray : Bus
stray = state_of 0x000A pages Phase.arbitration 0x0002 (0 ∷ 2 ∷ replicate 14 0) nobody

pub record ZeroAndOwnBits : Type 0 where
  -- lines at 0 are card 0's
  pub zero_settled : is_settled (requested (free_bus (chassis 0x0003 eight_bit)) 0x0001) ≡ true
  pub zero_lines : lines_of (requested (free_bus (chassis 0x0003 eight_bit)) 0x0001) ≡ 0
  pub zero_granted : acknowledged (requested (free_bus (chassis 0x0003 eight_bit)) 0x0001) ≡ state_of 0x0003 eight_bit Phase.granted 0 silent 0
  -- it sees its own 2: its first look silences it, its second brings 1
  pub once : get_or (looked_by stray 1).driven 1 0 ≡ 0
  pub twice : get_or (looked_by (looked_by stray 1) 1).driven 1 0 ≡ 1

-- ---- Steps out of turn hand back the state as given

abbrev pub granted_three : Bus
granted_three = state_of 0x000A pages Phase.granted 0 silent 3

pub record OutOfTurn : Type 0 where
  pub request_nobody : requested set_up 0x0000 ≡ set_up
  pub request_unfitted : requested set_up 0x0003 ≡ set_up
  pub look_idle : looked_by (requested set_up 0x0002) 3 ≡ requested set_up 0x0002
  pub look_outside : looked_by (state_of 0x000A pages Phase.granted 0x0002 silent 3) 1 ≡ state_of 0x000A pages Phase.granted 0x0002 silent 3
  pub look_of_no_card : looked_by (requested set_up 0x0002) 17 ≡ requested set_up 0x0002
  pub acknowledge_nobody : acknowledged (state_of 0x000A pages Phase.arbitration 0 silent 0xFF) ≡ state_of 0x000A pages Phase.arbitration 0 silent 0xFF
  pub other_card : taking Step.BeginTransferOne 1 0 granted_three ≡ granted_three
  pub too_soon : taking Step.TakeBus 3 0 granted_three ≡ granted_three
  pub not_owned : taking Step.BeginTransferTwo 3 0 granted_three ≡ granted_three
  pub not_yet : taking Step.GiveBack 3 0 granted_three ≡ granted_three
  pub cycle : taking Step.Cycle 3 0x1234 granted_three ≡ granted_three
  pub reset_anyhow : taking Step.Reset 0 0 granted_three ≡ set_up

-- ---- Other pages

pub record OtherPages : Type 0 where
  pub all : with_pages granted_three eight_bit ≡ record {
    fitted = 0x000A;
    pages = replicate 16 1;
    phase = 2;
    contenders = 0;
    driven = replicate 16 0;
    granted = 3;
  }

-- ---- Sense and setup

-- The refusals as 01 numbers them, and the place of nobody.
pub record Numbers : Type 0 where
  pub low : Refusal.accepted ∷ Refusal.wrong_buffers ∷ Refusal.senseless ∷ Refusal.malformed ∷ Refusal.nobody_named ∷ Refusal.not_fitted ∷
      Refusal.wrong_phase ∷ []
      ≡ 0x00 ∷ 0x01 ∷ 0x02 ∷ 0x03 ∷ 0x04 ∷ 0x05 ∷ 0x06 ∷ []
  pub high : Refusal.not_its_turn ∷ Refusal.unsettled ∷ Refusal.odd_word ∷ Refusal.absent ∷ Refusal.bad_page ∷ []
      ≡ 0x07 ∷ 0x08 ∷ 0x09 ∷ 0x0A ∷ 0x0B ∷ []
  pub of_lines : Refusal.wrong_line_length ∷ Refusal.wrong_character ∷ [] ≡ 0x0C ∷ 0x0D ∷ []
  pub none : nobody ≡ 0xFF
  -- not among them
  pub own : Refusal.wrong_length ≡ 0xFF

pub record SenseCases : Type 0 where
  pub at_rest : makes_sense set_up ≡ true
  pub contending : makes_sense (requested set_up 0x000A) ≡ true
  pub granted : makes_sense granted_three ≡ true
  pub high_code : makes_sense (state_of 0x000A (3 ∷ replicate 15 0) 0 0 silent 0xFF) ≡ false
  pub no_phase : makes_sense (state_of 0x000A pages (suc Phase.last) 0 silent 0xFF) ≡ false
  pub unfitted_contender : makes_sense (state_of 0x000A pages 1 0x0003 silent 0xFF) ≡ false
  pub nobody_contends : makes_sense (state_of 0x000A pages 1 0 silent 0xFF) ≡ false
  pub contends_elsewhere : makes_sense (state_of 0x000A pages 0 0x0002 silent 0xFF) ≡ false
  pub idle_drives : makes_sense (state_of 0x000A pages 1 0x0002 (1 ∷ replicate 15 0) 0xFF) ≡ false
  pub stray_driving : makes_sense (state_of 0x000A pages 1 0x0002 (0 ∷ 2 ∷ replicate 14 0) 0xFF) ≡ true
  pub drives_too_much : makes_sense (state_of 0x000A pages 1 0x0002 (0 ∷ 16 ∷ replicate 14 0) 0xFF) ≡ false
  pub unfitted_grant : makes_sense (state_of 0x000A pages 2 0 silent 2) ≡ false
  pub no_card_granted : makes_sense (state_of 0x000A pages 4 0 silent 0xFF) ≡ false
  pub granted_while_free : makes_sense (state_of 0x000A pages 0 0 silent 3) ≡ false
  pub bad_setup : setup_of (chassis 0x000A (replicate 15 0 ++ (3 ∷ []))) ≡ record { answer = 0x0B; bus = state_of 0 (replicate 16 0) 0 0 silent 0xFF }
