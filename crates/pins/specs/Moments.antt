-- What the pictures of an accepted event show: one moment, or two for a split word (02, CR 1). They go by the event and its answer alone.
use Rattle.std.specs.Prelude.{ℕ, ◌+◌, ◌*◌, ◌/◌, ◌%◌, Bool, true, false, cond, ◌&&◌, ◌||◌, List, [], ◌∷◌, eqb}
use Rattle.phases.specs.Kind as Kind
use Rattle.phases.specs.Signal.{sXTRQ}
use Rattle.phases.specs.Control.{is_reading, is_writing, control_in}
use Rattle.memory.specs.Halves.{even_half, odd_half}
use Rattle.bus.specs.Refusal.{accepted}
use Rattle.judgement.specs.declared.event.Event.{Event}
use Rattle.events.specs.declared.answers.Answer.{Answer}
use Rattle.pins.specs.declared.moments.Moment.{Moment}

-- ---- What is the same at every moment of an event

-- with these signals, address and bytes
abbrev pub moment_of : Event → Answer → ℕ → ℕ → ℕ → ℕ → Bool → Bool → Moment
moment_of event answer signals address out into drivesOut drivesIn = record {
  signals = signals;
  lines = answer.lines;
  control = control_in answer.phase event.kind;
  status = answer.status;
  address = address;
  dout = out;
  din = into;
  cyclic = drivesOut || drivesIn;
  doutDriven = drivesOut;
  dinDriven = drivesIn;
}

-- ---- The moments

-- an event that is no cycle: the bus that it leaves
abbrev pub idle_moment : Event → Answer → Moment
idle_moment event answer = moment_of event answer answer.signals 0 0 0 false false

-- a byte cycle: DI carries what is read, DO what is written
abbrev pub byte_moment : Event → Answer → ℕ → ℕ → ℕ → Moment
byte_moment event answer signals address byte =
    moment_of event answer signals address byte byte (is_writing event.kind) (is_reading event.kind)

-- a word in one cycle: the even byte on DO and the odd one on DI, whichever way it goes (000, 2.6.3)
abbrev pub word_moment : Event → Answer → Moment
word_moment event answer =
    moment_of event answer answer.signals event.address (even_half answer.datum) (odd_half answer.datum) true true

-- ---- Which of them

-- the odd address of the pair that an address lies in
abbrev pub odd_of_pair : ℕ → ℕ
odd_of_pair address = address / 2 * 2 + 1

-- the signals without sXTRQ, which weighs more than all the others
abbrev pub without_request : ℕ → ℕ
without_request signals = signals % sXTRQ

-- a word that took two cycles: a byte cycle at the even address, with sXTRQ, and then one at the odd address, without
abbrev pub even_moment : Event → Answer → Moment
even_moment event answer = byte_moment event answer answer.signals event.address (even_half answer.datum)

abbrev pub odd_moment : Event → Answer → Moment
odd_moment event answer = byte_moment event answer (without_request answer.signals) (odd_of_pair event.address) (odd_half answer.datum)

abbrev pub is_split : Event → Answer → Bool
is_split event answer = Kind.is_word event.kind && eqb answer.cycles 2

-- a byte's datum is below 100h, so its lower half is all of it
abbrev pub cycle_moments : Event → Answer → List Moment
cycle_moments event answer =
    cond (is_split event answer) (even_moment event answer ∷ odd_moment event answer ∷ [])
    (cond (Kind.is_word event.kind) (word_moment event answer ∷ [])
    (byte_moment event answer answer.signals event.address (odd_half answer.datum) ∷ []))

-- a cycle has a strobe, and no other event has
abbrev pub has_strobe : ℕ → Bool
has_strobe kind = is_reading kind || is_writing kind

-- nothing is pictured of a refused event
unfoldable pub moments_of : Event → Answer → List Moment
moments_of event answer =
    cond (eqb answer.refusal accepted)
    (cond (has_strobe event.kind) (cycle_moments event answer) (idle_moment event answer ∷ []))
    []
