-- States, answers and calls written out, byte by byte.
use Rattle.std.specs.Prelude.{ℕ, ◌-◌, ◌≡◌, false, List, [], ◌∷◌, ◌++◌, replicate, take}
use Rattle.bus.specs.Refusal.{wrong_length}
use Rattle.bus.specs.Refusal as Refusal
use Rattle.bus.specs.State.{chassis, state_of, lines_of}
use Rattle.bus.specs.declared.state.Bus.{Bus}
use Rattle.phases.specs.Kind as Kind
use Rattle.judgement.specs.Table.{event_of}
use Rattle.judgement.specs.declared.event.Event.{Event}
use Rattle.events.specs.declared.answers.Answer.{Answer}
use Rattle.pins.specs.Examples.{idle_line}
use Rattle.s100_c.specs.Layout.{state_size, state_bytes, bus_in, answer_size, answer_bytes, answer_in}
use Rattle.s100_c.specs.Calls.{
  setup_answers,
  setup_leaves,
  settle_answers,
  settle_leaves,
  settle_counts,
  Lent,
  lent,
  step_answers,
  step_leaves,
  no_field,
  field_of,
  entry_of,
  is_sensible,
}
use Rattle.s100_c.specs.Outcomes.{outcome_answers, outcome_leaves}
use Rattle.s100_c.specs.Pictures.{picture_answers, picture_leaves, read_answers, read_leaves}

-- ---- The layout: at every place the place's own number

abbrev pub page_bytes : List ℕ
page_bytes = 2 ∷ 3 ∷ 4 ∷ 5 ∷ 6 ∷ 7 ∷ 8 ∷ 9 ∷ 10 ∷ 11 ∷ 12 ∷ 13 ∷ 14 ∷ 15 ∷ 16 ∷ 17 ∷ []

abbrev pub level_bytes : List ℕ
level_bytes = 21 ∷ 22 ∷ 23 ∷ 24 ∷ 25 ∷ 26 ∷ 27 ∷ 28 ∷ 29 ∷ 30 ∷ 31 ∷ 32 ∷ 33 ∷ 34 ∷ 35 ∷ 36 ∷ []

abbrev pub placed : List ℕ
placed = 0 ∷ 1 ∷ [] ++ page_bytes ++ 18 ∷ 19 ∷ 20 ∷ [] ++ level_bytes ++ 37 ∷ []

abbrev pub placed_bus : Bus
placed_bus = state_of 0x0001 page_bytes 0x12 0x1314 level_bytes 0x25

-- the answer 00040300FF10011234 of 01's printed run, to a word written
abbrev pub word_written : Answer
word_written = record {
  refusal = 0x00;
  phase = 0x04;
  granted = 0x03;
  lines = 0x00;
  signals = 0xFF;
  status = 0x10;
  cycles = 0x01;
  datum = 0x1234;
}

pub record BytesInPlace : Type 0 where
  pub read : bus_in placed ≡ placed_bus
  pub put : state_bytes placed_bus ≡ placed
  pub answer_put : answer_bytes word_written ≡ 0x00 ∷ 0x04 ∷ 0x03 ∷ 0x00 ∷ 0xFF ∷ 0x10 ∷ 0x01 ∷ 0x12 ∷ 0x34 ∷ []
  pub answer_read : answer_in (0x00 ∷ 0x04 ∷ 0x03 ∷ 0x00 ∷ 0xFF ∷ 0x10 ∷ 0x01 ∷ 0x12 ∷ 0x34 ∷ []) ≡ word_written

pub record FieldsInPlace : Type 0 where
  pub fitted : field_of (λ bus. bus.fitted) placed ≡ 0x0001
  pub phase : field_of (λ bus. bus.phase) placed ≡ 0x12
  pub contenders : field_of (λ bus. bus.contenders) placed ≡ 0x1314
  pub granted : field_of (λ bus. bus.granted) placed ≡ 0x25
  pub page_zero : entry_of (λ bus. bus.pages) placed 0 ≡ 2
  pub last_page : entry_of (λ bus. bus.pages) placed 15 ≡ 17
  pub last_level : entry_of (λ bus. bus.driven) placed 15 ≡ 36
  pub no_such_card : entry_of (λ bus. bus.driven) placed 16 ≡ no_field
  pub too_long : field_of (λ bus. bus.phase) (placed ++ 0 ∷ []) ≡ no_field
  pub empty : entry_of (λ bus. bus.pages) [] 0 ≡ no_field
  -- cards 2, 4, 8, 9 and 12 contend here and drive 17h, 19h, 1Dh, 1Eh and 21h
  pub lines : field_of lines_of placed ≡ 0x3F
  pub no_lines : field_of lines_of [] ≡ 0xFFFFFFFF
  pub senseless : is_sensible placed ≡ false
  pub no_sense : is_sensible [] ≡ false

-- ---- Calls, on a buffer with other bytes in it

abbrev pub used : List ℕ
used = replicate state_size 0x55

-- 01's setup line 000A1200000000000000; a page code 3; fifteen pages; a buffer that is a byte short
pub record SetupCalls : Type 0 where
  pub answers : setup_answers (chassis 0x000A (1 ∷ 2 ∷ [] ++ replicate 14 0)) used ≡ Refusal.accepted
  pub leaves : setup_leaves (chassis 0x000A (1 ∷ 2 ∷ [] ++ replicate 14 0)) used ≡ 0x00 ∷ 0x0A ∷ 1 ∷ 2 ∷ [] ++ replicate 33 0 ++ 0xFF ∷ []
  pub refused : setup_answers (chassis 0x000A (3 ∷ [] ++ replicate 15 0)) used ≡ Refusal.bad_page
  pub emptied : setup_leaves (chassis 0x000A (3 ∷ [] ++ replicate 15 0)) used ≡ replicate 37 0 ++ 0xFF ∷ []
  pub fifteen : setup_answers (chassis 0x000A (replicate 15 1)) used ≡ wrong_length
  pub fifteen_leaves : setup_leaves (chassis 0x000A (replicate 15 1)) used ≡ used
  pub short : setup_answers (chassis 0x000A (replicate 16 1)) (replicate (state_size - 1) 0x55) ≡ wrong_length
  pub short_leaves : setup_leaves (chassis 0x000A (replicate 16 1)) (replicate (state_size - 1) 0x55) ≡ replicate (state_size - 1) 0x55

-- ---- A reset, accepted in any phase, with something wrong about what is lent

abbrev pub resetting : Event
resetting = event_of Kind.reset 0 0 0

-- no memory and no ports, with a place for the answer; the same with a place that is a byte short, and with a state that is
abbrev pub no_memory : Lent
no_memory = lent used [] [] (replicate answer_size 0x55)

abbrev pub short_answer : Lent
short_answer = lent used [] [] (replicate (answer_size - 1) 0x55)

abbrev pub short_state : Lent
short_state = lent (replicate (state_size - 1) 0x55) [] [] (replicate answer_size 0x55)

pub record StepCalls : Type 0 where
  pub no_memory_answers : step_answers no_memory resetting ≡ Refusal.wrong_buffers
  pub no_memory_leaves : step_leaves no_memory resetting ≡ no_memory
  pub short_answer_answers : step_answers short_answer resetting ≡ wrong_length
  pub short_answer_leaves : step_leaves short_answer resetting ≡ short_answer
  pub short_state_answers : step_answers short_state resetting ≡ wrong_length
  pub short_state_leaves : step_leaves short_state resetting ≡ short_state

-- ---- Cards 4, 9 and 10 contend, nobody drives (M5, M6)

abbrev pub four_nine_ten : List ℕ
four_nine_ten = 0xFF ∷ 0xFF ∷ [] ++ replicate 16 1 ++ 0x01 ∷ 0x06 ∷ 0x10 ∷ [] ++ replicate 16 0 ++ 0xFF ∷ []

abbrev pub nine : List ℕ
nine = 4 ∷ 9 ∷ 10 ∷ 9 ∷ 10 ∷ 4 ∷ 9 ∷ 10 ∷ 4 ∷ []

abbrev pub twelve : List ℕ
twelve = nine ++ 9 ∷ 10 ∷ 4 ∷ []

pub record SettleCalls : Type 0 where
  pub answers : settle_answers four_nine_ten twelve ≡ Refusal.accepted
  pub counts : settle_counts four_nine_ten twelve 77 ≡ 10
  -- settled: card 9 has dropped its lowest bit, 4 all that it had, and 10 drives its number
  pub leaves : settle_leaves four_nine_ten twelve
      ≡ 0xFF ∷ 0xFF ∷ [] ++ replicate 16 1 ++ 0x01 ∷ 0x06 ∷ 0x10 ∷ [] ++ replicate 9 0 ++ 8 ∷ 10 ∷ [] ++ replicate 5 0 ++ 0xFF ∷ []
  pub nine_answers : settle_answers four_nine_ten nine ≡ Refusal.unsettled
  pub nine_counts : settle_counts four_nine_ten nine 77 ≡ 0
  pub nine_leaves : settle_leaves four_nine_ten nine ≡ four_nine_ten
  pub short_answers : settle_answers (replicate (state_size - 1) 0) twelve ≡ wrong_length
  pub short_counts : settle_counts (replicate (state_size - 1) 0) twelve 77 ≡ 77

-- ---- The same cards, settled (02, CR 4)

abbrev pub settled_three : List ℕ
settled_three = 0xFF ∷ 0xFF ∷ [] ++ replicate 16 1 ++ 0x01 ∷ 0x06 ∷ 0x10 ∷ [] ++ replicate 9 0 ++ 8 ∷ 10 ∷ [] ++ replicate 5 0 ++ 0xFF ∷ []

pub record OutcomeCalls : Type 0 where
  pub nine_loses : outcome_leaves settled_three 9 (replicate 4 0x55) ≡ 0x00 ∷ 0x09 ∷ 0x01 ∷ 0x0A ∷ []
  pub nine_answers : outcome_answers settled_three 9 (replicate 4 0x55) ≡ Refusal.accepted
  pub ten_wins : outcome_leaves settled_three 10 (replicate 4 0x55) ≡ 0x00 ∷ 0x0A ∷ 0xFF ∷ 0xFF ∷ []
  pub too_soon : outcome_leaves four_nine_ten 9 (replicate 4 0x55) ≡ 0x08 ∷ 0x09 ∷ 0xFF ∷ 0xFF ∷ []
  pub too_soon_answers : outcome_answers four_nine_ten 9 (replicate 4 0x55) ≡ Refusal.unsettled
  pub no_card : outcome_leaves settled_three 0x10 (replicate 4 0x55) ≡ 0x03 ∷ 0x10 ∷ 0xFF ∷ 0xFF ∷ []
  pub short_place : outcome_answers settled_three 9 (replicate 3 0x55) ≡ wrong_length
  pub short_place_left : outcome_leaves settled_three 9 (replicate 3 0x55) ≡ replicate 3 0x55
  pub long_state : outcome_answers (settled_three ++ 0 ∷ []) 9 (replicate 4 0x55) ≡ wrong_length
  pub long_state_left : outcome_leaves (settled_three ++ 0 ∷ []) 9 (replicate 4 0x55) ≡ replicate 4 0x55

-- ---- Pictures: a reset leaves a free bus

abbrev pub free_answer : List ℕ
free_answer = 0x00 ∷ 0x00 ∷ 0xFF ∷ [] ++ replicate 6 0x00

-- an acknowledge, unsettled
abbrev pub refused_answer : List ℕ
refused_answer = 0x08 ∷ 0x01 ∷ 0xFF ∷ [] ++ replicate 6 0x00

pub record PictureCalls : Type 0 where
  pub answers : picture_answers 0x0F 0 free_answer (replicate 102 0x55) ≡ 51
  pub leaves : picture_leaves 0x0F 0 free_answer (replicate 102 0x55) ≡ idle_line ++ replicate 51 0x55
  pub refused_answers : picture_answers 0x03 0 refused_answer (replicate 102 0x55) ≡ 0
  pub refused_leaves : picture_leaves 0x03 0 refused_answer (replicate 102 0x55) ≡ replicate 102 0x55
  pub short_answers : picture_answers 0x0F 0 free_answer (replicate 101 0x55) ≡ wrong_length
  pub short_leaves : picture_leaves 0x0F 0 free_answer (replicate 101 0x55) ≡ replicate 101 0x55
  pub read_again : read_answers (take 50 idle_line) (replicate 4 0x55) ≡ Refusal.accepted
  pub read_left : read_leaves (take 50 idle_line) (replicate 4 0x55) ≡ 0 ∷ 0 ∷ 0 ∷ 0 ∷ []
  -- with its newline it is no line of fifty digits
  pub long_read : read_answers idle_line (replicate 4 0x55) ≡ Refusal.wrong_line_length
  pub long_left : read_leaves idle_line (replicate 4 0x55) ≡ 0 ∷ 0 ∷ 0 ∷ 0 ∷ []
  -- the newline in the place of the last digit
  pub bad_read : read_answers (take 49 idle_line ++ 0x0A ∷ []) (replicate 4 0x55) ≡ Refusal.wrong_character
  pub bad_left : read_leaves (take 49 idle_line ++ 0x0A ∷ []) (replicate 4 0x55) ≡ 0 ∷ 0 ∷ 0 ∷ 50 ∷ []
  pub short_read : read_answers (take 50 idle_line) (replicate 3 0x55) ≡ wrong_length
  pub short_left : read_leaves (take 50 idle_line) (replicate 3 0x55) ≡ replicate 3 0x55
