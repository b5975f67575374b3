-- One line at the front.
use mathlib.Core.Path.{ap, ◌∙◌}
use mathlib.Core.List.{List, ◌++◌}
use Prim.Native.Nat.{ℕ}
use native.Mathlib.Omega.{arith}
use lib.ListN.{drop}
use Rattle.pins.specs.Picture.{picture_length}
use Rattle.pins.proofs.DigitLaws.{line_long}
use Rattle.printing.proofs.LineLaws.{put_in_front}
use Rattle.picturing.proofs.pictures.put_one.Goals as goal

pub returns-clause-left : goal.returns-clause-left
returns-clause-left c =
    let place = c.args.lines.now in
    ap (λ (l : List ℕ). l ++ drop picture_length place) c.put_line.ensures ∙ put_in_front place _ (line_long c.args.quiet.moment) (omega (arith, c.told-lines))
