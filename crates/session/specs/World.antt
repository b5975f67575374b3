-- What the program does with a line (01, "The program and one whole run"): the first sets the bus up, each later one is an event.
use Rattle.std.specs.Prelude.{ℕ, cond, List, [], eqb, replicate}
use Rattle.phases.specs.Signal.{signals_in}
use Rattle.memory.specs.Cycles.{nothing}
use Rattle.bus.specs.Refusal as Refusal
use Rattle.bus.specs.Setup.{SetupAnswer, empty_bus, setup_of}
use Rattle.bus.specs.declared.state.Bus.{Bus}
use Rattle.judgement.specs.declared.event.Event.{Event}
use Rattle.events.specs.Machine.{Machine, machine}
use Rattle.events.specs.Answers.{answer_with, bare_with}
use Rattle.events.specs.Step.{after, answer_to}
use Rattle.events.specs.declared.answers.Answer.{Answer}
use Rattle.text.specs.Digits.{is_digits}
use Rattle.text.specs.Faults.{Fault, fault_of}
use Rattle.text.specs.Frames.{SetupLine, event_digits, event_in, setup_in}
use Rattle.text.specs.AnswerLine.{answer_line, answer_length}
use Rattle.text.specs.OutcomeLine.{outcome_lines, outcomes_length}
use Rattle.text.specs.Reading.{Reader}
use Rattle.pins.specs.Picture.{most_pictured, pictures_of}
use Rattle.session.specs.declared.state.Stage.{Stage}
use Rattle.session.specs.declared.state.Stage.TheVariants.{Awaiting, Running, Ended}
use Rattle.session.specs.declared.state.Session.{Session}
use Rattle.session.specs.declared.state.Wanted.{Wanted}
use Rattle.session.specs.declared.state.Wanted.TheVariants.{Answers, Pictures, Outcomes}

-- a session with its memory and its ports
pub record World : Type 0 where
  pub session : Session
  pub memory : List ℕ
  pub ports : List ℕ

abbrev pub world : Stage → Bus → List ℕ → List ℕ → World
world stage bus memory ports = record { session = record { stage = stage; bus = bus }; memory = memory; ports = ports }

abbrev pub machine_of : World → Machine
machine_of w = machine w.session.bus w.memory w.ports

-- ---- The setup line

-- a refused setup leaves an empty chassis
abbrev pub refused_setup : ℕ → SetupAnswer
refused_setup refusal = record { answer = refusal; bus = empty_bus }

-- a bad line is refused as such, and otherwise setup decides
abbrev pub set_up_by : SetupLine → SetupAnswer
set_up_by line = cond (eqb line.fault.refusal Refusal.accepted) (setup_of line.chassis) (refused_setup line.fault.refusal)

-- behind a refusal there is nothing but the column of a wrong character
abbrev pub setup_answer : Fault → SetupAnswer → Answer
setup_answer fault given =
    cond (eqb given.answer Refusal.accepted) (answer_with Refusal.accepted given.bus (signals_in given.bus.phase) 0 nothing)
    (bare_with given.answer fault.column)

abbrev pub stage_after : SetupAnswer → Stage
stage_after given = cond (eqb given.answer Refusal.accepted) Running Ended

-- ---- What is written: answers (01), or pictures (02, CR 1), or outcomes (02, CR 4)

abbrev pub wants_answers : ℕ
wants_answers = 0

abbrev pub wants_outcomes : ℕ
wants_outcomes = 2

-- by its number, as the calls hand it on; any other number asks for pictures
unfoldable pub wanted_by : ℕ → Wanted
wanted_by number = cond (eqb number wants_answers) Answers (cond (eqb number wants_outcomes) Outcomes Pictures)

-- for a line that is no event: nothing of it is pictured, and outcomes wait for the end
abbrev pub reply_as : Wanted → Answer → List ℕ
reply_as Answers answer = answer_line answer
reply_as Pictures answer = []
reply_as Outcomes answer = []

-- for an event: its answer, or its pictures, if it is accepted; outcomes wait
abbrev pub event_as : Wanted → Event → Answer → List ℕ
event_as Answers event answer = answer_line answer
event_as Pictures event answer = pictures_of event answer
event_as Outcomes event answer = []

-- the outcomes of what a run has left: before its setup line there is no state to tell of, and after a refused one an empty chassis
unfoldable pub outcomes_left : Stage → Bus → List ℕ
outcomes_left Awaiting bus = []
outcomes_left Running bus = outcome_lines bus
outcomes_left Ended bus = outcome_lines bus

-- at the end of the input
abbrev pub closing : Wanted → Session → List ℕ
closing Answers session = []
closing Pictures session = []
closing Outcomes session = outcomes_left session.stage session.bus

-- ---- Event lines: what is wrong with a bad one (01, and 02, CR 2), and otherwise the step of `events`

abbrev pub fault_answer : Fault → Answer
fault_answer fault = bare_with fault.refusal fault.column

abbrev pub event_said : Wanted → Machine → List ℕ → List ℕ
event_said wanted m line =
    cond (is_digits event_digits line) (event_as wanted (event_in line) (answer_to m (event_in line)))
    (reply_as wanted (fault_answer (fault_of event_digits line)))

abbrev pub after_event : Machine → List ℕ → Machine
after_event m line = cond (is_digits event_digits line) (after m (event_in line)) m

-- ---- Any line

unfoldable pub says_by : Wanted → Stage → World → List ℕ → List ℕ
says_by wanted Awaiting w line = reply_as wanted (setup_answer (setup_in line).fault (set_up_by (setup_in line)))
says_by wanted Running w line = event_said wanted (machine_of w) line
says_by wanted Ended w line = []

unfoldable pub turns_by : Stage → World → List ℕ → World
turns_by Awaiting w line = world (stage_after (set_up_by (setup_in line))) (set_up_by (setup_in line)).bus w.memory w.ports
turns_by Running w line =
    world Running (after_event (machine_of w) line).bus (after_event (machine_of w) line).memory (after_event (machine_of w) line).ports
turns_by Ended w line = w

-- the bytes that are written for a line
abbrev pub says : Wanted → World → List ℕ → List ℕ
says wanted w line = says_by wanted w.session.stage w line

-- what a line leads to
abbrev pub turns : World → List ℕ → World
turns w line = turns_by w.session.stage w line

-- the most bytes that are written at once, for a line or at the end
abbrev pub most_said : Wanted → ℕ
most_said Answers = answer_length
most_said Pictures = most_pictured
most_said Outcomes = outcomes_length

-- the program as a reader of lines
abbrev pub answering : Wanted → Reader World
answering wanted = record { says = says wanted; turns = turns; closes = λ w. closing wanted w.session; most = most_said wanted }

-- before the first line: an empty chassis, memory and ports at zero
abbrev pub fresh : Session
fresh = record { stage = Awaiting; bus = empty_bus }

unfoldable pub fresh_world : World
fresh_world = record { session = fresh; memory = replicate 0x10000 0; ports = replicate 0x100 0 }
