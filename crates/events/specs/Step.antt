-- The step: an accepted event does what its kind does, and a refused one nothing (01, "Events", "Refusals and their order").
use Rattle.std.specs.Prelude.{ℕ, cond, eqb}
use Rattle.phases.specs.Status.{status_of}
use Rattle.bus.specs.Refusal as Refusal
use Rattle.bus.specs.Step.{step_by}
use Rattle.bus.specs.declared.state.Bus.{Bus}
use Rattle.bus.specs.declared.step.Step.{Step}
use Rattle.judgement.specs.Table.{row_of}
use Rattle.judgement.specs.Judge.{sound_refusal, refusal_of}
use Rattle.judgement.specs.declared.event.Event.{Event}
use Rattle.events.specs.Machine.{Machine, machine}
use Rattle.events.specs.Cycles.{slave_at, moved_by, memory_left, ports_left}
use Rattle.events.specs.Answers.{answer_with, signals_with, refused_with}
use Rattle.events.specs.declared.answers.Answer.{Answer}
use Rattle.events.specs.declared.answers.Stepped.{Stepped}

-- ---- An accepted event

-- the bus after a step, with the event's fields
abbrev pub bus_by : Step → Bus → Event → Bus
bus_by step bus event = step_by step bus event.speaker event.datum

abbrev pub taken_by : Step → Machine → Event → Machine
taken_by step m event =
    machine (bus_by step m.bus event)
    (memory_left (slave_at m.bus.pages event.address) event m.memory)
    (ports_left event m.ports)

abbrev pub answer_by : Step → Machine → Event → Answer
answer_by step m event =
    answer_with Refusal.accepted (bus_by step m.bus event)
    (signals_with (bus_by step m.bus event).phase event.kind (slave_at m.bus.pages event.address))
    (status_of event.kind)
    (moved_by (slave_at m.bus.pages event.address) event m.memory m.ports)

-- ---- Accepted or refused, by the refusal that was found

abbrev pub after_as : ℕ → Machine → Event → Machine
after_as refusal m event = cond (eqb refusal Refusal.accepted) (taken_by (row_of event.kind).step m event) m

abbrev pub answer_as : ℕ → Machine → Event → Answer
answer_as refusal m event = cond (eqb refusal Refusal.accepted) (answer_by (row_of event.kind).step m event) (refused_with refusal m.bus)

-- state and answer together, as a call hands them back
abbrev pub stepped : Bus → Answer → Stepped
stepped bus answer = record { bus = bus; answer = answer }

-- ---- The step

abbrev pub refusal_in : Machine → Event → ℕ
refusal_in m event = refusal_of m.memory m.ports m.bus event

unfoldable pub after : Machine → Event → Machine
after m event = after_as (refusal_in m event) m event

unfoldable pub answer_to : Machine → Event → Answer
answer_to m event = answer_as (refusal_in m event) m event

abbrev pub step_of : Machine → Event → Stepped
step_of m event = stepped (after m event).bus (answer_to m event)

-- ---- The step where buffers and state are known to be sound: 01 and 02 aren't asked

unfoldable pub sound_after : Machine → Event → Machine
sound_after m event = after_as (sound_refusal m.bus event) m event

unfoldable pub sound_answer : Machine → Event → Answer
sound_answer m event = answer_as (sound_refusal m.bus event) m event

abbrev pub sound_step_of : Machine → Event → Stepped
sound_step_of m event = stepped (sound_after m event).bus (sound_answer m event)
