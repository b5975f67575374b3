-- The end is found behind the digits that lead.
use mathlib.Core.Path.{◌≡◌, refl, sym, ◌∙◌}
use Prim.Native.Nat.{◌+◌}
use native.Mathlib.Omega.{arith}
use Rattle.text.specs.Newlines.{first_line}
use Rattle.text.specs.Frames.{event_digits}
use Rattle.text.proofs.FaultLaws.{wrong_behind, wrong_line_length_holds}
use Rattle.text.proofs.NewlineLaws.{line_short, whole_line}
use Rattle.text.proofs.FrameLaws.{digits_passed}
use Rattle.reading.proofs.line_reading.bad_line.Goals as goal

pub overflow_add-size : goal.overflow_add-size
overflow_add-size c =
    let line = c.args.line.now in
    let ends = digits_passed line event_digits c.args.leading c.line_end.result c.told-line c.requires.is c.line_end.ensures in
    record { fits = omega (arith, ends, line_short line, c.told-line) }

pub returns-then-size-eq-EVENT_DIGITS : goal.returns-then-size-eq-EVENT_DIGITS
returns-then-size-eq-EVENT_DIGITS c =
    let line = c.args.line.now in
    let ends = digits_passed line event_digits c.args.leading c.line_end.result c.told-line c.requires.is c.line_end.ensures in
    let all : c.args.leading + c.line_end.result ≡ event_digits = c.if-size-eq-EVENT_DIGITS.true in
    -- it ends behind all fourteen bytes, so it is these
    let whole : first_line line ≡ line = whole_line line (sym ends ∙ all ∙ sym c.told-line) in
    let fault = wrong_behind event_digits line c.args.leading c.told-line c.requires.is c.requires.some in
    rw (whole, ← fault, c.told-line, all, c.wrong_behind-fault.ensures) refl

pub returns-else-size-eq-EVENT_DIGITS : goal.returns-else-size-eq-EVENT_DIGITS
returns-else-size-eq-EVENT_DIGITS c =
    let line = c.args.line.now in
    let ends = digits_passed line event_digits c.args.leading c.line_end.result c.told-line c.requires.is c.line_end.ensures in
    rw (wrong_line_length_holds event_digits (first_line line) (λ e. c.if-size-eq-EVENT_DIGITS.false (ends ∙ e)), ends) refl
