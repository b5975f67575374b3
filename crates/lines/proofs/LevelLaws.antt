-- What a look leaves in the list of levels, and that looks leave the levels and the lines in range.
use mathlib.Core.Path.{◌≡◌, refl, sym, ap, ap₂, ◌∙◌, subst}
use mathlib.Core.Bool.{Bool, true, false, cond, not, ◌&&◌, ◌||◌, true≢false}
use mathlib.Core.List.{List, [], ◌∷◌, ◌++◌}
use Prim.Native.Nat.{ℕ, ◌^◌, ◌<◌}
use native.Mathlib.Omega.{arith}
use lib.Dec.{eqb}
use lib.ListN.{length, get_or, set, length-set}
use lib.Seq.{get_or-set_other}
use lib.Pow.{pow_pos}
use borrow.Author.Tests.{eq-eqb}
use Rattle.words.specs.Bits.{bit_at}
use Rattle.words.proofs.BitLaws.{bit_above}
use Rattle.words.proofs.BelowLaws.{all_same, or_below_bit, or_below_lt}
use Rattle.words.proofs.ListLaws.{get_d_set, get_d_set_either}
use Rattle.lines.specs.Arbitration.{Arbitration, Contender, every_contender, shown, looked, after_look, after_looks}
use Rattle.lines.specs.Promises.{LookSetsOne, ShownByPlace, LevelsInRange, LinesInRange}
use Rattle.lines.proofs.LookLaws.{look_in_range}
use Rattle.lines.proofs.ContenderLaws.{by_contending}

module _ (a : Arbitration) where
  pub length_look : (levels : List ℕ) (p : ℕ) → length (after_look a levels p) ≡ length levels
  unfolding after_look
  length_look levels p = go (a.contends p)
    where
      go : (b : Bool) → length (cond b (set levels p (looked a levels p)) levels) ≡ length levels
      go true = length-set levels p (looked a levels p)
      go false = refl

  -- after anyone's look a card drives what it drove, or what its own look at those lines gives: so what holds of both holds of its level
  pub after_look_holds : (P : ℕ → Type 0) (levels : List ℕ) (p q : ℕ) → P (get_or levels q 0) → P (looked a levels q) → P (get_or (after_look a levels p) q 0)
  unfolding after_look
  after_look_holds P levels p q old new = go (a.contends p)
    where
      go : (b : Bool) → P (get_or (cond b (set levels p (looked a levels p)) levels) q 0)
      go false = old
      go true = get_d_set_either P levels p q (looked a levels p) old (λ e. subst (λ (x : ℕ). P (looked a levels x)) e new)

  -- nobody's look changes what a card that doesn't contend drives
  pub idle_look : (levels : List ℕ) (p q : ℕ) → a.contends q ≡ false → get_or (after_look a levels p) q 0 ≡ get_or levels q 0
  unfolding after_look
  idle_look levels p q idle = go (a.contends p) refl
    where
      go : (b : Bool) → a.contends p ≡ b → get_or (cond b (set levels p (looked a levels p)) levels) q 0 ≡ get_or levels q 0
      go false c = refl
      go true c = get_or-set_other levels p q (looked a levels p) 0 (λ e. true≢false (sym c ∙ ap a.contends (sym e) ∙ idle))

  pub after_append : (levels looks more : List ℕ) → after_looks a levels (looks ++ more) ≡ after_looks a (after_looks a levels looks) more
  unfolding after_looks
  after_append levels [] more = refl
  after_append levels (p ∷ looks) more = after_append (after_look a levels p) looks more

  pub looked_in_range : (levels : List ℕ) (q : ℕ) → looked a levels q < 2 ^ a.width
  unfolding looked
  looked_in_range levels q = look_in_range a.width (a.number q) (shown a levels)

pub look_sets_one : LookSetsOne
unfolding after_look
look_sets_one a levels size p q h = go (a.contends p)
  where
    go : (b : Bool) → get_or (cond b (set levels p (looked a levels p)) levels) q 0 ≡ cond (b && eqb q p) (looked a levels p) (get_or levels q 0)
    go true = get_d_set levels p q (looked a levels p) (omega arith)
    go false = refl

-- so a contender's look sets what it drives
pub own_look : (a : Arbitration) (levels : List ℕ) → length levels ≡ a.places → (q : ℕ) → Contender a q → get_or (after_look a levels q) q 0 ≡ looked a levels q
own_look a levels size q k =
    look_sets_one a levels size q q k.present
    ∙ ap₂ (λ (b c : Bool). cond (b && c) (looked a levels q) (get_or levels q 0)) k.contending (eq-eqb q q refl)

pub shown_by_place : ShownByPlace
unfolding shown every_contender
shown_by_place a levels k =
    or_below_bit (λ q. cond (a.contends q) (get_or levels q 0) 0) k a.places
    ∙ all_same _ _ a.places (λ q h. go (a.contends q) (get_or levels q 0))
  where
    go : (b : Bool) (x : ℕ) → not (bit_at (cond b x 0) k) ≡ (not b || not (bit_at x k))
    go true x = refl
    go false x = ap not (bit_above k 0 (pow_pos k))

pub levels_in_range : LevelsInRange
unfolding after_looks
levels_in_range a levels r [] = r
levels_in_range a levels r (p ∷ looks) =
    levels_in_range a (after_look a levels p)
    record {
      size = length_look a levels p ∙ r.size;
      below = λ q k. after_look_holds a (λ (x : ℕ). x < 2 ^ a.width) levels p q (r.below q k) (looked_in_range a levels q);
    }
    looks

pub lines_in_range : LinesInRange
unfolding shown
lines_in_range a levels r =
    or_below_lt a.width (λ q. cond (a.contends q) (get_or levels q 0) 0) a.places (λ q h.
    by_contending a (λ (b : Bool). cond b (get_or levels q 0) 0 < 2 ^ a.width) q h (r.below q) (pow_pos a.width))
