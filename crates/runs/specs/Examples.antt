-- Single runs: three rounds that fall short, among other calls, a run of refusals, and the marked table (01, "Marked for proof").
use Rattle.std.specs.Prelude.{ℕ, ◌≤◌, ◌≡◌, Bool, true, false, cond, List, [], ◌∷◌, ◌++◌, eqb, get_or}
use Rattle.phases.specs.Phase as Phase
use Rattle.phases.specs.Kind as Kind
use Rattle.cards.specs.Cards.{card_in}
use Rattle.bus.specs.Refusal as Refusal
use Rattle.bus.specs.Sense.{makes_sense}
use Rattle.bus.specs.State.{nobody, silent, state_of, chassis, free_bus, lines_of}
use Rattle.bus.specs.Settle.{settle_of}
use Rattle.bus.specs.declared.state.Bus.{Bus}
use Rattle.bus.specs.Examples.{eight_bit, contending, four_nine_ten, first, again}
use Rattle.judgement.specs.Table.{event_of, permanent_master}
use Rattle.judgement.specs.Refusals.{page_at}
use Rattle.judgement.specs.declared.event.Event.{Event}
use Rattle.events.specs.Machine.{Machine, machine}
use Rattle.events.specs.Step.{refusal_in, answer_to}
use Rattle.runs.specs.Run.{Call, call, refusal_on, bus_after, after_all, looks_in, EachLooks, GoesOn}
use Rattle.runs.specs.Promises.{spoken, look_by, right_acknowledge, Right}

-- ---- Events and calls

-- a cycle of the permanent master's
abbrev pub cycle : ℕ → ℕ → ℕ → Event
cycle kind address datum = event_of kind permanent_master address datum

abbrev pub request : ℕ → Event
request cards = event_of Kind.request 0 0 cards

-- an event that is lent memory and ports, and one that is lent none
abbrev pub lent : Event → Bool × Event
lent event = (true, event)

abbrev pub unlent : Event → Bool × Event
unlent event = (false, event)

-- the call that it is
abbrev pub call_with : List ℕ → List ℕ → Bool × Event → Call
call_with memory ports x = call x.1 (cond x.0 memory []) (cond x.0 ports [])

unfoldable pub over : List ℕ → List ℕ → List (Bool × Event) → List Call
over memory ports [] = []
over memory ports (x ∷ xs) = call_with memory ports x ∷ over memory ports xs

-- looks in this order
unfoldable pub looks : List ℕ → List (Bool × Event)
looks [] = []
looks (card ∷ cards) = lent (look_by card) ∷ looks cards

-- the refusals along a run
unfoldable pub refusals_of : Bus → List Call → List ℕ
refusals_of bus [] = []
refusals_of bus (c ∷ calls) = refusal_on bus c ∷ refusals_of (bus_after bus c) calls

-- ---- 4, 9 and 10, nobody driving, with any memory and ports of the right lengths

-- Three rounds with other calls among them: the permanent master reads a byte; refused are an acknowledge (08), an idle card's look (07), a
-- request (06), a reset and a look without memory (01), and a reset with a speaker (03).
abbrev pub round_one : List (Bool × Event)
round_one = lent (look_by 4) ∷ lent (cycle Kind.byte_read 0 0) ∷ lent (look_by 9) ∷ lent right_acknowledge ∷ lent (look_by 10) ∷ []

abbrev pub round_two : List (Bool × Event)
round_two = lent (look_by 9) ∷ lent (look_by 2) ∷ lent (look_by 10) ∷ lent (request 0x0002) ∷ lent (look_by 4) ∷ []

abbrev pub round_three : List (Bool × Event)
round_three =
    lent (look_by 9) ∷ unlent (spoken Kind.reset 0) ∷ unlent (look_by 9) ∷ lent (spoken Kind.reset 1) ∷ lent (look_by 10) ∷ lent (look_by 4) ∷ []

abbrev pub three_rounds : List (Bool × Event)
three_rounds = round_one ++ round_two ++ round_three

pub record ThreeRoundsFallShort (memory ports : List ℕ) : Type 0 where
  pub one : EachLooks four_nine_ten (over memory ports round_one)
  pub two : EachLooks (after_all four_nine_ten (over memory ports round_one)) (over memory ports round_two)
  pub three : EachLooks (after_all four_nine_ten (over memory ports (round_one ++ round_two))) (over memory ports round_three)
  pub goes_on : GoesOn four_nine_ten (over memory ports three_rounds)
  pub refusals : refusals_of four_nine_ten (over memory ports three_rounds) ≡ 0 ∷ 0 ∷ 0 ∷ 8 ∷ 0 ∷ 0 ∷ 7 ∷ 0 ∷ 6 ∷ 0 ∷ 0 ∷ 1 ∷ 1 ∷ 3 ∷ 0 ∷ 0 ∷ []
  -- the lines show 11, and card 11 doesn't contend
  pub lines : lines_of (after_all four_nine_ten (over memory ports three_rounds)) ≡ 11
  pub nobodys : card_in four_nine_ten.contenders (lines_of (after_all four_nine_ten (over memory ports three_rounds))) ≡ false
  pub refused : refusal_on (after_all four_nine_ten (over memory ports three_rounds)) (call right_acknowledge memory ports) ≡ Refusal.unsettled
  -- the fourth round brings 10, and its grant
  pub fourth : lines_of (after_all four_nine_ten (over memory ports (three_rounds ++ looks again))) ≡ 10
  pub granted : (bus_after (after_all four_nine_ten (over memory ports (three_rounds ++ looks again))) (call right_acknowledge memory ports)).granted ≡ 10

abbrev pub ThreeRounds : Type 0
ThreeRounds = (memory ports : List ℕ) → Right memory ports → ThreeRoundsFallShort memory ports

-- Without memory and ports every call of the first round is refused: no look counts, and nothing changes.
pub record AllRefused : Type 0 where
  pub looks : looks_in four_nine_ten (over [] [] round_one) ≡ []
  pub same : after_all four_nine_ten (over [] [] round_one) ≡ four_nine_ten

-- ---- The marked table

-- the lines after these looks of 4, 9 and 10
abbrev pub LinesAfter : List ℕ → ℕ → Type 0
LinesAfter cards lines = (memory ports : List ℕ) → Right memory ports → lines_of (after_all four_nine_ten (over memory ports (looks cards))) ≡ lines

-- in phase 0, with sense, and memory and ports of the right lengths
pub record AtRest (m : Machine) : Type 0 where
  pub right : Right m.memory m.ports
  pub sense : makes_sense m.bus ≡ true
  pub free : m.bus.phase ≡ Phase.free

abbrev pub Present : Machine → ℕ → Type 0
Present m address = eqb (page_at m.bus.pages address) 0 ≡ false

-- in arbitration, nobody driving
abbrev pub Silent : ℕ → Bus → Type 0
Silent cards bus = bus ≡ state_of 0xFFFF eight_bit Phase.arbitration cards silent nobody

pub record Marked : Type 0 where
  pub starts : Silent 0x0610 four_nine_ten × (Silent 0x0001 (contending 0x0001) × Silent 0x0002 (contending 0x0002))
  pub m1 : LinesAfter first 12
  pub m2 : LinesAfter (first ++ again) 8
  pub m3 : LinesAfter (first ++ again ++ again) 11
  pub m4 : LinesAfter (first ++ again ++ again ++ again) 10
  pub m5 : ((settle_of four_nine_ten (first ++ again ++ again ++ again)).answer ≡ Refusal.accepted)
      × ((settle_of four_nine_ten (first ++ again ++ again ++ again)).looks ≡ 10)
  pub m6 : (settle_of four_nine_ten (first ++ again ++ again)).answer ≡ Refusal.unsettled
  -- with looks to spare
  pub m7 : ((settle_of (contending 0x0001) (0 ∷ [])).answer ≡ Refusal.accepted) × ((settle_of (contending 0x0001) (0 ∷ [])).looks ≡ 0)
  pub m8 : ((settle_of (contending 0x0002) (1 ∷ 1 ∷ [])).answer ≡ Refusal.accepted) × ((settle_of (contending 0x0002) (1 ∷ 1 ∷ [])).looks ≡ 1)
  -- there are such machines
  pub rest : (memory ports : List ℕ) → Right memory ports → AtRest (machine (free_bus (chassis 0xFFFF eight_bit)) memory ports)
  pub m9 : (m : Machine) → AtRest m → page_at m.bus.pages 0x000002 ≡ 1 → get_or m.memory 0x000002 0 ≡ 0x12 → get_or m.memory 0x000003 0 ≡ 0x34
      → ((answer_to m (cycle Kind.word_read 0x000002 0)).refusal ≡ Refusal.accepted)
      × (((answer_to m (cycle Kind.word_read 0x000002 0)).datum ≡ 0x1234) × ((answer_to m (cycle Kind.word_read 0x000002 0)).cycles ≡ 2))
  -- whatever the page's code
  pub m10 : (m : Machine) → AtRest m
      → (refusal_in m (cycle Kind.word_read 0x001001 0) ≡ Refusal.odd_word)
      × ((datum : ℕ) → datum ≤ 0xFFFF → refusal_in m (cycle Kind.word_write 0x001001 datum) ≡ Refusal.odd_word)
  pub m11 : (m : Machine) → AtRest m → Present m 0x001FFE → (datum : ℕ) → datum ≤ 0xFFFF
      → refusal_in m (cycle Kind.word_write 0x001FFE datum) ≡ Refusal.accepted
  pub m12 : (m : Machine) → AtRest m
      → (Present m 0x00FFFF → refusal_in m (cycle Kind.byte_read 0x00FFFF 0) ≡ Refusal.accepted)
      × (refusal_in m (cycle Kind.byte_read 0x010000 0) ≡ Refusal.absent)
  pub m13 : (m : Machine) → AtRest m
      → ((refusal_in m (cycle Kind.input 0x0000FF 0) ≡ Refusal.accepted) × (refusal_in m (cycle Kind.input 0x000100 0) ≡ Refusal.absent))
      × ((datum : ℕ) → datum ≤ 0xFF
      → (refusal_in m (cycle Kind.output 0x0000FF datum) ≡ Refusal.accepted) × (refusal_in m (cycle Kind.output 0x000100 datum) ≡ Refusal.absent))
