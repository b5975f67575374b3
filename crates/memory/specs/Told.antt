-- What the code's results tell, as specs/Cycles has it.
use Rattle.std.specs.Prelude.{Option, Some, None}
use Rattle.memory.specs.Moved.{Moved}
use Rattle.memory.specs.Cycles.{nothing}
use Rattle.memory.specs.declared.Moved as Code

abbrev pub told : Code.Moved → Moved
told moved = record { datum = moved.datum; cycles = moved.cycles }

-- what was moved, if anything
abbrev pub moved_in : Option Code.Moved → Moved
moved_in (Some moved) = told moved
moved_in None = nothing
