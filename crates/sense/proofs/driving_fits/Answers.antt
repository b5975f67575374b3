-- What the closure gathers of each card.
use Prim.Native.Nat.{ℕ, ◌≤◌}
use mathlib.Core.Path.{◌≡◌, refl, ◌∙◌}
use mathlib.Core.Bool.{Bool, true, false, cond, ◌&&◌}
use native.Mathlib.Nat.{le_of_eq}
use native.Mathlib.Omega.{arith}
use borrow.Author.Rules.{rules}
use borrow.Author.Tests.{tests, leb-true, le-leb, eqb-true, eq-eqb}
use lib.Dec.{eqb, leb}
use lib.ListN.{length}
use Rattle.std.proofs.lemmas.Iterator.Consumers.{fold_from_yields_List}
use Rattle.words.proofs.TestLaws.{tests_same}
use Rattle.words.proofs.BelowLaws.{all_same}
use Rattle.words.proofs.ListLaws.{all_gathered}
use Rattle.words.proofs.PlacedLaws.{placed, each_place_holds, in_place_order}
use Rattle.cards.specs.Cards.{card_in}
use Rattle.bus.proofs.SenseLaws.{levels_fit}
use Rattle.sense.proofs.driving_fits.Goals as goal

-- at most 15 for a contender and at most 0 for another card
at_most_counted : (b : Bool) (d : ℕ) → leb d (cond b 15 0) ≡ cond b (leb d 15) (eqb d 0)
at_most_counted true d = refl
at_most_counted false d = tests_same (leb d 0) (eqb d 0) (λ l. eq-eqb d 0 (none (leb-true d 0 l))) (λ e. le-leb d 0 (le_of_eq (eqb-true d 0 e)))
  where
    none : d ≤ 0 → d ≡ 0
    none h = omega arith

pub returns : goal.returns
returns c =
    let contenders = c.args.contenders in
    let driven = c.args.driven in
    let size : length driven ≡ 16 = search rules in
    fold_from_yields_List _ (λ fits (p : ℕ × ℕ). fits && leb p.1 (cond (card_in contenders p.0) 15 0)) true _ c.fold.ensures.ran
    (in_place_order driven 16 size (cc) (cc))
    (λ fits x b q k. search (rules, tests))
    ∙ all_gathered (λ (p : ℕ × ℕ). leb p.1 (cond (card_in contenders p.0) 15 0)) true (placed driven 16 size)
    ∙ each_place_holds driven 16 size (λ n level. leb level (cond (card_in contenders n) 15 0))
    ∙ all_same _ _ 16 (λ k h. at_most_counted (card_in contenders k) _)
    ∙ levels_fit contenders driven size
