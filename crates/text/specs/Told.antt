-- What the code's results tell, in 01's and 02's numbers.
use Rattle.std.specs.Prelude.{ℕ, Option, Some, None, Result, Ok, Err}
use Rattle.bus.specs.Refusal.{accepted}
use Rattle.bus.specs.State.{empty_chassis}
use Rattle.bus.specs.Told.{number_of}
use Rattle.bus.specs.declared.refusal.Refusal.{Refusal}
use Rattle.bus.specs.declared.state.Chassis.{Chassis}
use Rattle.judgement.specs.declared.event.Event.{Event}
use Rattle.text.specs.declared.fault.Fault.{Fault as FaultFound}
use Rattle.text.specs.declared.fault.Fault.TheVariants.{WrongLength, WrongCharacter}
use Rattle.text.specs.declared.frames.BadLine.{BadLine as BadLineFound}
use Rattle.text.specs.Faults.{Fault, fault}
use Rattle.text.specs.Frames.{BadLine, Line, SetupLine}

-- ---- What is wrong with a line

abbrev pub refusal_of : FaultFound → Refusal
refusal_of WrongLength = Refusal.WrongLineLength
refusal_of (WrongCharacter column) = Refusal.WrongCharacter

-- where no character is to blame 0
abbrev pub column_of : FaultFound → ℕ
column_of WrongLength = 0
column_of (WrongCharacter column) = column

abbrev pub fault_told : FaultFound → Fault
fault_told found = fault (number_of (refusal_of found)) (column_of found)

-- ---- What is read

abbrev pub bad_line_told : BadLineFound → BadLine
bad_line_told bad = record { size = bad.size; fault = fault_told bad.fault }

abbrev pub line_told : Result Event BadLineFound → Line
line_told (Ok event) = Line.Frame event
line_told (Err bad) = Line.Bad (bad_line_told bad)

-- nothing where the line isn't ended yet
abbrev pub next_line_told : Option (Result Event BadLineFound) → Line
next_line_told None = Line.Unended
next_line_told (Some line) = line_told line

-- a fault leaves the chassis empty
abbrev pub setup_told : Result Chassis FaultFound → SetupLine
setup_told (Ok chassis) = record { fault = fault accepted 0; chassis = chassis }
setup_told (Err found) = record { fault = fault_told found; chassis = empty_chassis }
