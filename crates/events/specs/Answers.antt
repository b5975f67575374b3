-- The answer to an event (01, "The program and one whole run").
use Rattle.std.specs.Prelude.{ℕ, ◌+◌, cond, leb}
use Rattle.phases.specs.Kind as Kind
use Rattle.phases.specs.Signal.{SIXTN, sXTRQ, signals_in}
use Rattle.memory.specs.Moved.{Moved}
use Rattle.memory.specs.declared.Slave.{Slave}
use Rattle.memory.specs.Slave.{asserts_sixtn}
use Rattle.memory.specs.Cycles.{nothing}
use Rattle.bus.specs.Refusal as Refusal
use Rattle.bus.specs.State.{lines_of}
use Rattle.bus.specs.declared.state.Bus.{Bus}
use Rattle.events.specs.declared.answers.Answer.{Answer}

-- what the bus shows, and beside it what a cycle had on it
abbrev pub answer_with : ℕ → Bus → ℕ → ℕ → Moved → Answer
answer_with refusal bus signals status moved = record {
  refusal = refusal;
  phase = bus.phase;
  granted = bus.granted;
  lines = lines_of bus;
  signals = signals;
  status = status;
  cycles = moved.cycles;
  datum = moved.datum;
}

-- the signals that a word adds to its phase's
unfoldable pub word_signals : ℕ → Slave → ℕ
word_signals kind s = cond (Kind.is_word kind) (sXTRQ + cond (asserts_sixtn s) SIXTN 0) 0

abbrev pub signals_with : ℕ → ℕ → Slave → ℕ
signals_with phase kind s = signals_in phase + word_signals kind s

-- a number, with nothing but a datum behind it
abbrev pub bare_with : ℕ → ℕ → Answer
bare_with refusal datum = record { refusal = refusal; phase = 0; granted = 0; lines = 0; signals = 0; status = 0; cycles = 0; datum = datum }

-- a number alone
abbrev pub bare : ℕ → Answer
bare refusal = bare_with refusal 0

-- After 01 and 02 nothing is shown; after the others, the bus as it is, without status, cycles and datum.
abbrev pub refused_with : ℕ → Bus → Answer
refused_with refusal bus = cond (leb refusal Refusal.senseless) (bare refusal) (answer_with refusal bus (signals_in bus.phase) 0 nothing)
