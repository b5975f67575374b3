-- By whether all bytes are digits.
use mathlib.Core.Path.{ap, ◌∙◌}
use Rattle.text.specs.Frames.{Line, event_digits}
use Rattle.text.proofs.FaultLaws.{all_digits_of}
use Rattle.text.proofs.FrameLaws.{frame_in}
use Rattle.reading.proofs.line_reading.closed_line.Goals as goal

pub returns-in-Ok : goal.returns-in-Ok
returns-in-Ok c =
    let line = c.in-Ok.digits.line.now in
    let all = all_digits_of event_digits line c.in-Ok.digits.right in
    rw (← c.in-Ok.ensures.ok) (ap Line.Frame c.event_in.ensures ∙ frame_in line all.0 all.1)
