-- By whether a newline stands behind fourteen bytes, and else by where the line ends.
use mathlib.Core.Path.{sym, ap, ◌∙◌, refl}
use Rattle.text.specs.Frames.{line_in, event_digits}
use Rattle.text.specs.Newlines.{first_line}
use Rattle.text.proofs.FaultLaws.{wrong_line_length_holds}
use Rattle.text.proofs.NewlineLaws.{first_before, newline_somewhere, newline_nowhere}
use Rattle.text.proofs.FrameLaws.{bad_in, not_at_place, other_length, ended_next}
use Rattle.reading.proofs.line_reading.next_line.Goals as goal

pub returns-in-Some : goal.returns-in-Some
returns-in-Some c =
    let text = c.args.text.now in
    let here = c.in-Some.ensures in
    let first = first_before event_digits text here.1 here.2 in
    c.closed_line.ensures ∙ ap (λ l. line_in (first_line l)) here.0 ∙ ap line_in first.1 ∙ ended_next text first.0

pub returns-in_err-size-in-None : goal.returns-in_err-size-in-None
returns-in_err-size-in-None c =
    let text = c.args.text.now in
    rw (newline_nowhere text (sym c.newline_at.ensures ∙ c.in_err-size-in-None.was), c.from_residual.ensures) refl

pub returns-in_ok-size-in-None : goal.returns-in_ok-size-in-None
returns-in_ok-size-in-None c =
    let text = c.args.text.now in
    let at = newline_somewhere text c.in_ok-size-in-None.size (sym c.newline_at.ensures ∙ c.in_ok-size-in-None.was) in
    let other = not_at_place text at.0 c.in-None.ensures in
    rw (
      ← ended_next text at.0,
      ← bad_in (first_line text) (other_length (first_line text) other),
      wrong_line_length_holds event_digits (first_line text) other,
      at.1,
    ) refl
