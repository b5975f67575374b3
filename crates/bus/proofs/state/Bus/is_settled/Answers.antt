-- What the closure gathers of each card.
use Prim.Native.Nat.{ℕ}
use mathlib.Core.Path.{◌≡◌, ◌∙◌}
use mathlib.Core.Bool.{Bool, true, not, ◌&&◌, ◌||◌}
use lib.Dec.{eqb}
use lib.ListN.{length}
use Rattle.std.proofs.Common.{rules, tests}
use Rattle.std.proofs.lemmas.Iterator.Consumers.{fold_from_yields_List}
use Rattle.words.proofs.ListLaws.{all_gathered}
use Rattle.words.proofs.PlacedLaws.{placed, each_place_holds, in_place_order}
use Rattle.lines.specs.Look.{look}
use Rattle.lines.specs.Arbitration.{settled, every_contender, looked}
use Rattle.cards.specs.Cards.{card_in}
use Rattle.bus.proofs.state.Bus.is_settled.Goals as goal

pub returns : goal.returns
unfolding settled every_contender looked
returns c =
    let bus = c.args.self in
    let size : length bus.driven ≡ 16 = search rules in
    let stays : ℕ → ℕ → Bool = λ n level. not (card_in bus.contenders n) || eqb (look 4 n c.lines-lines.result) level in
    fold_from_yields_List _ (λ all (p : ℕ × ℕ). all && stays p.0 p.1) true _ c.fold.ensures.ran
    (in_place_order bus.driven 16 size (cc) (cc))
    (λ all x b q k. search (rules, tests))
    ∙ all_gathered (λ (p : ℕ × ℕ). stays p.0 p.1) true (placed bus.driven 16 size)
    ∙ each_place_holds bus.driven 16 size stays
    ∙ rw c.lines-lines.ensures
