-- Looks one after another, and who may look.
use Prim.Native.Nat.{ℕ, ◌+◌, ◌<◌}
use mathlib.Core.Path.{◌≡◌, refl, sym, ap, ◌∙◌}
use mathlib.Core.Bool.{true, and-eq-true_iff}
use mathlib.Core.List.{List, [], ◌∷◌, ◌++◌}
use native.Mathlib.Numerals.{add-one}
use lib.Dec.{eqb}
use lib.ListN.{length, get_or, take}
use lib.Seq.{take-suc}
use Rattle.cards.specs.Cards.{card_in}
use Rattle.cards.proofs.CardLaws.{card_below}
use Rattle.phases.specs.Phase as Phase
use Rattle.bus.specs.Steps.{may_look, looked_by, after_looks_of}
use Rattle.bus.specs.declared.state.Bus.{Bus}

pub looks_append : (bus : Bus) (cards more : List ℕ) → after_looks_of bus (cards ++ more) ≡ after_looks_of (after_looks_of bus cards) more
unfolding after_looks_of
looks_append bus [] more = refl
looks_append bus (card ∷ cards) more = looks_append (looked_by bus card) cards more

-- the leading looks and the one after them are the leading looks, one further
pub look_next : (bus : Bus) (cards : List ℕ) (n : ℕ) → n < length cards
    → looked_by (after_looks_of bus (take n cards)) (get_or cards n 0) ≡ after_looks_of bus (take (n + 1) cards)
unfolding after_looks_of
look_next bus cards n h =
    sym
    (ap (after_looks_of bus) (ap (λ (k : ℕ). take k cards) (add-one n) ∙ take-suc cards n 0 h)
    ∙ looks_append bus (take n cards) (get_or cards n 0 ∷ []))

-- whoever may look is one of the sixteen cards
pub looks_below : (bus : Bus) (card : ℕ) → may_look bus card ≡ true → card < 16
looks_below bus card may =
    card_below bus.contenders card ((and-eq-true_iff (eqb bus.phase Phase.arbitration) (card_in bus.contenders card)).0 may).1
