-- Each byte of such a line is a digit.
use mathlib.Core.Path.{◌≡◌}
use mathlib.Core.Bool.{true}
use mathlib.Core.List.{List}
use Prim.Native.Nat.{ℕ, ◌<◌}
use native.Mathlib.Omega.{arith}
use lib.ListN.{get_or}
use Rattle.words.proofs.ListLaws.{every_at}
use Rattle.text.specs.Digits.{is_digit, is_digits}
use Rattle.text.proofs.DigitLaws.{value_small}
use Rattle.text.proofs.FaultLaws.{all_digits_of}
use Rattle.reading.proofs.digits.Digits.value.Goals as goal

digit_at : (count : ℕ) (line : List ℕ) (at : ℕ) → is_digits count line ≡ true → at < count → is_digit (get_or line at 0) ≡ true
digit_at count line at right within =
    let all = all_digits_of count line right in every_at is_digit line all.1 at (omega (arith, all.0, within))

pub value-requires : goal.value-requires
value-requires g c = digit_at g.row.N c.args.self.line.now c.args.at c.args.self.right c.requires

pub returns-clause-small : goal.returns-clause-small
returns-clause-small g c =
    let line = c.args.self.line.now in
    omega (arith, value_small (get_or line c.args.at 0) (digit_at g.row.N line c.args.at c.args.self.right c.requires), c.value.ensures)
