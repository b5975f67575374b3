-- Two digits.
use native.Mathlib.Omega.{arith}
use Rattle.text.proofs.DigitLaws.{two_digits}
use Rattle.text.proofs.FaultLaws.{all_digits_of}
use Rattle.reading.proofs.digits.Digits.two.Goals as goal

pub returns : goal.returns
returns g c =
    let line = c.args.self.line.now in
    let long = (all_digits_of g.row.N line c.args.self.right).0 in
    omega (arith, c.value.ensures.is, c.value-2.ensures.is, two_digits c.args.at line (omega (arith, long)))
