-- What the result of a setup line tells, in 01's numbers.
use Rattle.std.specs.Prelude.{Result, Ok, Err}
use Rattle.phases.specs.Signal.{signals_in}
use Rattle.memory.specs.Cycles.{nothing}
use Rattle.bus.specs.Refusal.{accepted}
use Rattle.bus.specs.Setup.{SetupAnswer}
use Rattle.bus.specs.Told.{number_of}
use Rattle.bus.specs.declared.state.Bus.{Bus}
use Rattle.events.specs.Answers.{answer_with, bare_with}
use Rattle.events.specs.declared.answers.Answer.{Answer}
use Rattle.session.specs.World.{refused_setup, stage_after}
use Rattle.session.specs.declared.state.Session.{Session}
use Rattle.feeding.specs.declared.setting.RefusedLine.{RefusedLine}

abbrev pub set_up_told : Result Bus RefusedLine → SetupAnswer
set_up_told (Ok bus) = record { answer = accepted; bus = bus }
set_up_told (Err refused) = refused_setup (number_of refused.refusal)

-- behind a refusal stands nothing but the column
abbrev pub answer_told : Result Bus RefusedLine → Answer
answer_told (Ok bus) = answer_with accepted bus (signals_in bus.phase) 0 nothing
answer_told (Err refused) = bare_with (number_of refused.refusal) refused.column

abbrev pub session_told : Result Bus RefusedLine → Session
session_told told = record { stage = stage_after (set_up_told told); bus = (set_up_told told).bus }
