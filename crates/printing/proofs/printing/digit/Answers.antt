-- The digit is found without a branch.
use native.Mathlib.Omega.{arith}
use Rattle.text.proofs.DigitLaws.{digit_flat}
use Rattle.printing.proofs.printing.digit.Goals as goal

pub returns : goal.returns
returns c =
    digit_flat _ (omega arith)
