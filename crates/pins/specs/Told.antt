-- What the code's result tells of a picture read again, in 01's and 02's numbers.
use Rattle.std.specs.Prelude.{ℕ, Option, Some, None, Result, Ok, Err}
use Rattle.phases.specs.Phases.{number_of_phase}
use Rattle.phases.specs.declared.phases.Phase.{Phase}
use Rattle.text.specs.declared.fault.Fault.{Fault as FaultFound}
use Rattle.text.specs.Told.{fault_told}
use Rattle.pins.specs.declared.moments.Seen.{Seen as SeenOn}
use Rattle.pins.specs.ReadAgain.{Seen, phase_unknown, seen, unseen}

abbrev pub phase_told : Option Phase → ℕ
phase_told (Some phase) = number_of_phase phase
phase_told None = phase_unknown

abbrev pub picture_told : Result SeenOn FaultFound → Seen
picture_told (Ok on) = seen (phase_told on.phase) on.signals on.lines
picture_told (Err found) = unseen (fault_told found).refusal (fault_told found).column
