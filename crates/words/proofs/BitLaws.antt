-- The laws of `bit_at`, and of the OR of two numbers, that the library lacks. What a number has from place j up is its quotient by 2 to the power j.
use mathlib.Core.Path.{◌≡◌, refl, sym, ap, ap₂, ◌∙◌}
use mathlib.Core.Bool.{Bool, true, false, cond, ◌||◌}
use Prim.Native.Nat.{ℕ, zero, suc, ◌+◌, ◌*◌, ◌/◌, ◌%◌, ◌^◌, ◌<◌, max}
use native.Mathlib.Nat.{le_dest, le_step, lt-suc_self, mul-add-div, mod-eq_of_lt, div-eq_of_lt, one-mul}
use native.Mathlib.Numerals.{add-one, one-add}
use native.Mathlib.Omega.{arith}
use lib.Dec.{eqb}
use lib.Arith.{bin_ind, digits_mod}
use lib.Bits.{bit_or, or_step, or_shr}
use lib.Pow.{pow_pos, pow-add, shr-shr, mod-pow-add, high}
use borrow.Author.Tests.{eqb-true, eqb-false}
use Rattle.words.specs.Bits.{bit_at}

-- place i of what n has from place j up is n's place j + i
pub bit_high : (n j i : ℕ) → bit_at (n / 2 ^ j) i ≡ bit_at n (j + i)
bit_high n j i = ap (λ (x : ℕ). eqb (x % 2) 1) (shr-shr n j i)

pub bit_half : (n i : ℕ) → bit_at (n / 2) i ≡ bit_at n (suc i)
bit_half n i = bit_high n 1 i ∙ ap (bit_at n) (one-add i)

pub shr_suc : (n j : ℕ) → n / 2 ^ j / 2 ≡ n / 2 ^ suc j
shr_suc n j = shr-shr n j 1 ∙ ap (λ (x : ℕ). n / 2 ^ x) (add-one j)

-- what agrees from place j up agrees from the next place up too
pub agree_suc : (j a b : ℕ) → a / 2 ^ j ≡ b / 2 ^ j → a / 2 ^ suc j ≡ b / 2 ^ suc j
agree_suc j a b e = sym (shr_suc a j) ∙ ap (λ (x : ℕ). x / 2) e ∙ shr_suc b j

pub bit_one : (n k : ℕ) → bit_at n k ≡ true → n / 2 ^ k % 2 ≡ 1
bit_one n k e = eqb-true (n / 2 ^ k % 2) 1 e

pub bit_zero : (n k : ℕ) → bit_at n k ≡ false → n / 2 ^ k % 2 ≡ 0
bit_zero n k e = omega (arith, eqb-false (n / 2 ^ k % 2) 1 e)

-- the k + 1 low places are place k and the k below it
pub low_suc : (n k : ℕ) → n % 2 ^ suc k ≡ cond (bit_at n k) (2 ^ k + n % 2 ^ k) (n % 2 ^ k)
low_suc n k = ap (λ (x : ℕ). n % 2 ^ x) (sym (one-add k)) ∙ mod-pow-add n 1 k ∙ go (bit_at n k) refl
  where
    go : (b : Bool) → bit_at n k ≡ b → n / 2 ^ k % 2 * 2 ^ k + n % 2 ^ k ≡ cond b (2 ^ k + n % 2 ^ k) (n % 2 ^ k)
    go true e = rw (bit_one n k e) (omega arith)
    go false e = rw (bit_zero n k e) (omega arith)

-- what numbers have in their w low places is the same if it is the same at each of these
low_same : (w a b : ℕ) → ((k : ℕ) → k < w → bit_at a k ≡ bit_at b k) → a % 2 ^ w ≡ b % 2 ^ w
low_same zero a b each = omega arith
low_same (suc w) a b each =
    low_suc a w
    ∙ ap₂ (λ (t : Bool) (x : ℕ). cond t (2 ^ w + x) x) (each w (lt-suc_self w)) (low_same w a b (λ k h. each k (le_step h)))
    ∙ sym (low_suc b w)

-- so two numbers of w places with the same bits are the same number
pub bits_same : (w : ℕ) {a b : ℕ} → a < 2 ^ w → b < 2 ^ w → ((k : ℕ) → k < w → bit_at a k ≡ bit_at b k) → a ≡ b
bits_same w {a} {b} ha hb each = sym (mod-eq_of_lt ha) ∙ low_same w a b each ∙ mod-eq_of_lt hb

-- ---- A number of w places has no one from place w up, and a one put on top of it is its only one there.

pub bit_above : (w x : ℕ) → x < 2 ^ w → bit_at x w ≡ false
bit_above w x h = ap (λ (y : ℕ). eqb (y % 2) 1) (div-eq_of_lt h)

pub bit_top : (w x : ℕ) → x < 2 ^ w → bit_at (2 ^ w + x) w ≡ true
bit_top w x h = ap (λ (y : ℕ). eqb (y % 2) 1) (ap (λ (y : ℕ). (y + x) / 2 ^ w) (sym (one-mul (2 ^ w))) ∙ high 1 w h)

pub bit_below_top : (w k x : ℕ) → k < w → bit_at (2 ^ w + x) k ≡ bit_at x k
bit_below_top w k x h =
    let i = le_dest h in
    let exponent : w ≡ k + suc i.0 = omega (arith, i.1) in
    let quotient : (2 ^ w + x) / 2 ^ k ≡ 2 ^ suc i.0 + x / 2 ^ k
    = ap (λ (y : ℕ). (y + x) / 2 ^ k) (ap (λ (v : ℕ). 2 ^ v) exponent ∙ pow-add 2 k (suc i.0)) ∙ mul-add-div (pow_pos k) (2 ^ suc i.0) x in
    let odd : (2 ^ w + x) / 2 ^ k % 2 ≡ x / 2 ^ k % 2 = omega (arith, quotient) in
    ap (λ (y : ℕ). eqb y 1) odd

-- ---- OR

-- the lowest place of an OR
or_odd : (a b : ℕ) → bit_or a b % 2 ≡ max (a % 2) (b % 2)
or_odd a b =
    ap (λ (x : ℕ). x % 2) (or_step a b)
    ∙ digits_mod (bit_or (a / 2) (b / 2)) {m = 2} {r = max (a % 2) (b % 2)} (omega arith)

-- an OR has a one where either number has
pub bit_or_holds : (a b k : ℕ) → bit_at (bit_or a b) k ≡ (bit_at a k || bit_at b k)
bit_or_holds a b k =
    ap (λ (x : ℕ). eqb (x % 2) 1) (or_shr a b k)
    ∙ ap (λ (x : ℕ). eqb x 1) (or_odd (a / 2 ^ k) (b / 2 ^ k))
    ∙ go (bit_at a k) (bit_at b k) refl refl
  where
    go : (x y : Bool) → bit_at a k ≡ x → bit_at b k ≡ y → eqb (max (a / 2 ^ k % 2) (b / 2 ^ k % 2)) 1 ≡ (x || y)
    go true true ea eb = rw (bit_one a k ea, bit_one b k eb)
    go true false ea eb = rw (bit_one a k ea, bit_zero b k eb)
    go false true ea eb = rw (bit_zero a k ea, bit_one b k eb)
    go false false ea eb = rw (bit_zero a k ea, bit_zero b k eb)

pub bit_or_assoc : (a b c : ℕ) → bit_or (bit_or a b) c ≡ bit_or a (bit_or b c)
bit_or_assoc a =
    bin_ind
    (λ (n : ℕ). (b c : ℕ) → bit_or (bit_or n b) c ≡ bit_or n (bit_or b c))
    (λ b c. refl)
    (λ n ih b c.
    or_step (bit_or n b) c
    ∙ ap₂ (λ (x y : ℕ). x * 2 + y)
    (ap (λ (x : ℕ). bit_or x (c / 2)) (or_shr n b 1) ∙ ih (b / 2) (c / 2) ∙ ap (bit_or (n / 2)) (sym (or_shr b c 1)))
    (rw (or_odd n b, or_odd b c) (omega arith))
    ∙ sym (or_step n (bit_or b c)))
    a
