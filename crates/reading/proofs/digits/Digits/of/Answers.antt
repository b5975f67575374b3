-- By the first byte that is no digit.
use mathlib.Core.Path.{sym, ◌∙◌}
use native.Mathlib.Omega.{arith}
use Rattle.text.proofs.FaultLaws.{right_digits, wrong_at, wrong_nowhere}
use Rattle.reading.proofs.digits.Digits.of.Goals as goal

pub invariant_of-result : goal.invariant_of-result
invariant_of-result g c =
    let line = c.args.line.now in
    record { right = right_digits g.row.N line c.told-line (wrong_nowhere line (sym c.first_wrong.ensures ∙ c.in-None.is)) }

pub returns-in-Some-clause-err : goal.returns-in-Some-clause-err
returns-in-Some-clause-err g c =
    let first = wrong_at c.args.line.now c.in-Some.leading (sym c.first_wrong.ensures ∙ c.in-Some.is) in
    (first.1, omega (arith, first.0, c.told-line))
