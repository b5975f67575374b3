-- By what is wrong with the line.
use mathlib.Core.Path.{refl}
use Rattle.reading.proofs.line_reading.setup_line.Goals as goal

pub returns : goal.returns
returns c = rw (← c.in_ok-digits.ensures.ok, c.in_ok-digits.digits.right, c.chassis_in.ensures) refl
