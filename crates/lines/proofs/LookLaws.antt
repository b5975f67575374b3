-- The laws of one look, by induction on the number of lines: what it drives at each place; that a card that looks at its own number drives it whole,
-- and one that looks at a higher number drives ones of that number only; and that what a look drives from a place up hangs on the lines
-- strictly above that place.
use mathlib.Core.Path.{◌≡◌, refl, sym, ap, ap₂, ◌∙◌, subst}
use mathlib.Core.Logic.{⊎_elim}
use mathlib.Core.Bool.{Bool, true, false, cond, not, ◌&&◌, ◌||◌, and-true, and-false}
use Prim.Native.Nat.{ℕ, zero, suc, ◌+◌, ◌/◌, ◌%◌, ◌^◌, ◌<◌, ◌≤◌}
use native.Mathlib.Nat.{
  add-zero,
  add-suc,
  mod-lt,
  div-eq_of_lt,
  zero-div,
  mul-add-div,
  le_dest,
  one-mul,
  not-suc-le-zero,
  le_of_suc-le-suc,
}
use native.Mathlib.Omega.{arith}
use lib.Dec.{leb}
use lib.Bits.{bit_or, or_block}
use lib.Pow.{pow_pos, pow-add}
use borrow.Author.Tests.{le-leb, lt-leb}
use Rattle.words.specs.Bits.{bit_at}
use Rattle.words.specs.Below.{all_below}
use Rattle.words.proofs.TestLaws.{cond_again, cond_same}
use Rattle.words.proofs.BitLaws.{bit_high, bit_half, bit_above, bit_top, bit_below_top, shr_suc, low_suc}
use Rattle.words.proofs.BelowLaws.{last_or_below, all_of}
use Rattle.lines.specs.Look.{look}
use Rattle.lines.specs.Promises.{LookByPlace, LookInRange}

pub look_in_range : LookInRange
unfolding look
look_in_range zero n l = omega arith
look_in_range (suc k) n l = go (bit_at n k) (bit_at l k) (look_in_range k n l)
  where
    go : (b c : Bool) {x : ℕ} → x < 2 ^ k → cond b (2 ^ k + x) (cond c 0 x) < 2 ^ suc k
    go true c h = omega arith
    go false true h = omega (arith, pow_pos k)
    go false false h = omega arith

-- ---- Place by place

-- place i does not keep place k from being driven
abbrev lets : ℕ → ℕ → ℕ → ℕ → Bool
lets n l k i = leb i k || (bit_at n i || not (bit_at l i))

-- the highest place is driven where the number has a one there
at_highest : (w n l : ℕ) → bit_at (look (suc w) n l) w ≡ (bit_at n w && all_below (lets n l w) (suc w))
unfolding look
at_highest w n l = go (bit_at n w) (bit_at l w) ∙ sym (and-true (bit_at n w)) ∙ ap (◌&&◌ (bit_at n w)) (sym nothing_above)
  where
    go : (b c : Bool) → bit_at (cond b (2 ^ w + look w n l) (cond c 0 (look w n l))) w ≡ b
    go true c = bit_top w (look w n l) (look_in_range w n l)
    go false true = bit_above w 0 (pow_pos w)
    go false false = bit_above w (look w n l) (look_in_range w n l)

    nothing_above : all_below (lets n l w) (suc w) ≡ true
    nothing_above = all_of (lets n l w) (suc w) (λ i h. ap (λ (t : Bool). t || (bit_at n i || not (bit_at l i))) (le-leb i w (le_of_suc-le-suc h)))

-- a lower place is driven as it would be without the highest, unless the highest has it dropped
lower : (w n l k : ℕ) → k < w → bit_at (look w n l) k ≡ (bit_at n k && all_below (lets n l k) w)
    → bit_at (look (suc w) n l) k ≡ (bit_at n k && all_below (lets n l k) (suc w))
unfolding look all_below
lower w n l k h rest =
    go (bit_at n w) (bit_at l w)
    ∙ ap (λ (t : Bool). bit_at n k && (below && (t || (bit_at n w || not (bit_at l w))))) (sym (lt-leb w k h))
  where
    below : Bool
    below = all_below (lets n l k) w

    stays : bit_at (look w n l) k ≡ (bit_at n k && (below && true))
    stays = rest ∙ ap (◌&&◌ (bit_at n k)) (sym (and-true below))

    go : (b c : Bool) → bit_at (cond b (2 ^ w + look w n l) (cond c 0 (look w n l))) k ≡ (bit_at n k && (below && (b || not c)))
    go true c = bit_below_top w k (look w n l) h ∙ stays
    go false true = bit_above k 0 (pow_pos k) ∙ sym (ap (◌&&◌ (bit_at n k)) (and-false below) ∙ and-false (bit_at n k))
    go false false = stays

pub look_by_place : LookByPlace
look_by_place zero n l k h = absurd (not-suc-le-zero h)
look_by_place (suc w) n l k h =
    ⊎_elim
    (λ (e : k ≡ w).
    subst (λ (x : ℕ). bit_at (look (suc w) n l) x ≡ (bit_at n x && all_below (lets n l x) (suc w))) (sym e) (at_highest w n l))
    (λ less. lower w n l k less (look_by_place w n l k less))
    (last_or_below h)

-- ---- Looks at one's own number and at a higher one

pub look_own : (w n : ℕ) → look w n n ≡ n % 2 ^ w
unfolding look
look_own zero n = omega arith
look_own (suc k) n =
    cond_again (bit_at n k) (2 ^ k + look k n n) 0 (look k n n)
    ∙ ap (λ (x : ℕ). cond (bit_at n k) (2 ^ k + x) x) (look_own k n)
    ∙ sym (low_suc n k)

-- one more place on top of both
or_on_top : (k x y : ℕ) → x < 2 ^ k → y < 2 ^ k → bit_or (2 ^ k + x) (2 ^ k + y) ≡ 2 ^ k + bit_or x y
or_on_top k x y hx hy = simp one-mul at (or_block k 1 1 x y hx hy)

pub look_within : (w n m : ℕ) → n % 2 ^ w ≤ m % 2 ^ w → bit_or (look w n m) (m % 2 ^ w) ≡ m % 2 ^ w
unfolding look
look_within zero n m h = refl
look_within (suc k) n m h =
    go (bit_at n k) (bit_at m k) (look_within k n m) (subst (λ (x : ℕ). x ≤ m % 2 ^ suc k) (low_suc n k) h) (low_suc m k)
  where
    go : (b c : Bool) → (n % 2 ^ k ≤ m % 2 ^ k → bit_or (look k n m) (m % 2 ^ k) ≡ m % 2 ^ k)
        → cond b (2 ^ k + n % 2 ^ k) (n % 2 ^ k) ≤ m % 2 ^ suc k → m % 2 ^ suc k ≡ cond c (2 ^ k + m % 2 ^ k) (m % 2 ^ k)
        → bit_or (cond b (2 ^ k + look k n m) (cond c 0 (look k n m))) (m % 2 ^ suc k) ≡ m % 2 ^ suc k
    go true true below l e =
        rw e
        (or_on_top k (look k n m) (m % 2 ^ k) (look_in_range k n m) (mod-lt m (pow_pos k)) ∙ ap (λ (x : ℕ). 2 ^ k + x) (below (omega arith)))
    go true false below l e = absurd (omega (arith, mod-lt m (pow_pos k)))
    go false true below l e = refl
    go false false below l e = rw e (below (omega arith))

-- ---- From a place up

-- what a look drives from place j up is a look with what number and lines have from place j up
look_high : (j i n l : ℕ) → look (j + i) n l / 2 ^ j ≡ look i (n / 2 ^ j) (l / 2 ^ j)
unfolding look
look_high j zero n l = div-eq_of_lt (subst (λ (x : ℕ). look (j + 0) n l < 2 ^ x) (add-zero j) (look_in_range (j + 0) n l))
look_high j (suc i) n l =
    ap (λ (x : ℕ). look x n l / 2 ^ j) (add-suc j i)
    ∙ go (bit_at n (j + i)) (bit_at l (j + i)) (look (j + i) n l) (look_high j i n l)
    ∙ ap₂ (λ (b c : Bool). cond b (2 ^ i + rest) (cond c 0 rest)) (sym (bit_high n j i)) (sym (bit_high l j i))
  where
    rest : ℕ
    rest = look i (n / 2 ^ j) (l / 2 ^ j)

    go : (b c : Bool) (x : ℕ) → x / 2 ^ j ≡ rest → cond b (2 ^ (j + i) + x) (cond c 0 x) / 2 ^ j ≡ cond b (2 ^ i + rest) (cond c 0 rest)
    go true c x e =
        ap (λ (y : ℕ). (y + x) / 2 ^ j) (pow-add 2 j i) ∙ mul-add-div (pow_pos j) (2 ^ i) x ∙ ap (λ (y : ℕ). 2 ^ i + y) e
    go false true x e = zero-div (2 ^ j)
    go false false x e = e

-- the lowest place of the lines changes nothing: there is nothing below it to drop
look_half : (i n l m : ℕ) → l / 2 ≡ m / 2 → look (suc i) n l ≡ look (suc i) n m
unfolding look
look_half zero n l m e = ap (cond (bit_at n 0) 1) (cond_same (bit_at l 0) 0 ∙ sym (cond_same (bit_at m 0) 0))
look_half (suc i) n l m e =
    ap₂ (λ (c : Bool) (x : ℕ). cond (bit_at n (suc i)) (2 ^ suc i + x) (cond c 0 x))
    (sym (bit_half l i) ∙ ap (λ (x : ℕ). bit_at x i) e ∙ bit_half m i)
    (look_half i n l m e)

-- so lines that agree strictly above place j lead to looks that agree from place j up
pub look_causal : (w j n l m : ℕ) → j < w → l / 2 ^ suc j ≡ m / 2 ^ suc j → look w n l / 2 ^ j ≡ look w n m / 2 ^ j
look_causal w j n l m h e =
    let i = le_dest h in
    let same : j + suc i.0 ≡ w = omega (arith, i.1) in
    subst (λ (v : ℕ). look v n l / 2 ^ j ≡ look v n m / 2 ^ j) same
    (look_high j (suc i.0) n l
    ∙ look_half i.0 (n / 2 ^ j) (l / 2 ^ j) (m / 2 ^ j) (shr_suc l j ∙ e ∙ sym (shr_suc m j))
    ∙ sym (look_high j (suc i.0) n m))
