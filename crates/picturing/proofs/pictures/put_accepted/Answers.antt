-- By the refusal, and by whether there is a strobe.
use mathlib.Core.Path.{◌≡◌, refl, sym, ap, ◌∙◌}
use mathlib.Core.Bool.{true, false}
use borrow.Author.Tests.{eq-eqb}
use Rattle.pins.specs.Moments.{has_strobe, moments_of, idle_moment}
use Rattle.pins.proofs.DigitLaws.{no_picture}
use Rattle.picturing.proofs.KindLaws.{cycle_has_strobe, none_has_strobe}
use Rattle.picturing.proofs.FilledLaws.{one_pictured}
use Rattle.picturing.proofs.pictures.put_accepted.Goals as goal
use Rattle.picturing.proofs.pictures.put_accepted.Goals.{in_default-via-in-Ok+else-is_cycle, in_default-via-in_default}

pub returns-then-answer-ne-ACCEPTED : goal.returns-then-answer-ne-ACCEPTED
returns-then-answer-ne-ACCEPTED c = rw (no_picture c.args.event c.args.answer c.if-answer-ne-ACCEPTED.true) record { put = refl; left = refl }

pub returns-in-Ok : goal.returns-in-Ok
unfolding moments_of
returns-in-Ok c =
    let strobe : has_strobe c.args.event.kind ≡ true =
    ap has_strobe (sym c.in-Ok.ensures.1) ∙ sym (cycle_has_strobe c.in-Ok.kind) ∙ sym c.is_cycle.ensures ∙ c.if-is_cycle.true in
    rw (eq-eqb _ _ c.if-answer-ne-ACCEPTED.false, strobe) c.put_cycle_lines.ensures

pub returns-in_default : goal.returns-in_default
unfolding moments_of
returns-in_default c =
    let event = c.args.event in
    let answer = c.args.answer in
    let still : has_strobe event.kind ≡ false = elim c.in_default.branch [
      | in_default-via-in-Ok+else-is_cycle w ↦
          ap has_strobe (sym w.in-Ok.ensures.1) ∙ sym (cycle_has_strobe w.in-Ok.kind) ∙ sym w.is_cycle.ensures ∙ w.if-is_cycle.false
      | in_default-via-in_default w ↦ none_has_strobe event.kind w.in_default.ensures.1.1
    ] in
    let one = one_pictured c.args.lines.now (idle_moment event answer) c.idle_moment.ensures (c.put_one.ensures.put, c.put_one.ensures.left) in
    rw (eq-eqb _ _ c.if-answer-ne-ACCEPTED.false, still) record { put = one.0; left = one.1 }
