-- Where there is room.
use mathlib.Core.Path.{refl, ap, ◌∙◌}
use mathlib.Core.List.{List, ◌++◌}
use Prim.Native.Nat.{ℕ}
use borrow.Author.Tests.{le-leb}
use lib.ListN.{length, drop}
use Rattle.words.proofs.TestLaws.{then_pick}
use Rattle.pins.specs.Picture.{most_pictured}
use Rattle.pins.proofs.DigitLaws.{pictures_fit}
use Rattle.picturing.proofs.FilledLaws.{front_put}
use Rattle.picturing.proofs.pictures.put_pictures.Goals as goal

pub returns-clause-put : goal.returns-clause-put
returns-clause-put c =
    then_pick 0 (le-leb most_pictured (length c.args.out.now) (c.in-Some.ensures.variant.0 refl)) c.put_accepted.ensures.put

pub returns-clause-left : goal.returns-clause-left
returns-clause-left c =
    let place = c.args.out.now in
    let room = c.in-Some.ensures.variant.0 refl in
    then_pick place (le-leb most_pictured (length place) room) (
    ap (λ (l : List ℕ). l ++ drop most_pictured place) c.put_accepted.ensures.left
    ∙ front_put place c.in-Some.lines.now most_pictured _ c.in-Some.ensures.cases.same room (pictures_fit c.args.event c.args.answer))
