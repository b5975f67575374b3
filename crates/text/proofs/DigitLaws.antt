-- Digits without a branch; numbers digit by digit.
use mathlib.Core.Path.{◌≡◌, refl, sym, ap, ◌∙◌}
use mathlib.Core.Logic.{◌⊎◌, inl, inr, ⊎_elim}
use mathlib.Core.Bool.{Bool, true, false, cond, not, ◌&&◌, false≢true}
use mathlib.Core.List.{List, [], ◌∷◌, map}
use Prim.Native.Nat.{ℕ, zero, suc, ◌+◌, ◌*◌, ◌-◌, ◌/◌, ◌%◌, ◌^◌, ◌<◌, ◌≤◌}
use native.Mathlib.Omega.{arith}
use lib.Dec.{eqb, leb}
use lib.ListN.{length, get_or, take, drop, length-append, length-drop}
use lib.Seq.{drop-cons, length-take-le}
use Rattle.std.proofs.lemmas.Grind.{same_number_lists}
use Rattle.std.proofs.lemmas.List.{length-map, get_or-map, get_or-take, get_or-drop}
use borrow.Author.Tests.{leb-true, leb-false, le-leb, lt-leb}
use Rattle.words.specs.Below.{all_below}
use Rattle.words.specs.Among.{every_listed}
use Rattle.words.specs.Parts.{Sized}
use Rattle.words.proofs.BelowLaws.{same_tests_below}
use Rattle.words.proofs.TestLaws.{true_or_false, either_of, then_pick, else_pick, both_of}
use Rattle.words.proofs.ListLaws.{every_at}
use Rattle.text.specs.Digits.{is_digit, value_of, digit_of, number_after, number_of, digits_of, in_digits}
use Rattle.text.specs.Frames.{digits_from}

-- ---- One digit

-- a digit is one of two kinds
pub digit_kinds : (b : ℕ) → is_digit b ≡ true → ((0x30 ≤ b) × (b ≤ 0x39)) ⊎ ((0x41 ≤ b) × (b ≤ 0x46))
digit_kinds b e =
    ⊎_elim
    (λ low. let h = both_of (leb 0x30 b) (leb b 0x39) low in inl (leb-true 0x30 b h.0, leb-true b 0x39 h.1))
    (λ high. let h = both_of (leb 0x41 b) (leb b 0x46) high in inr (leb-true 0x41 b h.0, leb-true b 0x46 h.1))
    (either_of (leb 0x30 b && leb b 0x39) (leb 0x41 b && leb b 0x46) e)

-- the digit of n, without a branch
pub digit_flat : (n : ℕ) → n < 16 → n + 0x30 + n / 10 * 7 ≡ digit_of n
digit_flat n h = go (leb n 9) refl
  where
    go : (t : Bool) → leb n 9 ≡ t → n + 0x30 + n / 10 * 7 ≡ cond (leb n 9) (0x30 + n) (0x37 + n)
    go true e = then_pick (0x37 + n) e (omega (arith, leb-true n 9 e))
    go false e = else_pick (0x30 + n) e (omega (arith, leb-false n 9 e, h))

pub value_flat : (b : ℕ) → is_digit b ≡ true → b % 16 + b / 64 * 9 ≡ value_of b
value_flat b e =
    ⊎_elim
    (λ low. then_pick (b - 0x37) (le-leb b 0x39 low.1) (omega (arith, low.0, low.1)))
    (λ high. else_pick (b - 0x30) (lt-leb b 0x39 (omega (arith, high.0))) (omega (arith, high.0, high.1)))
    (digit_kinds b e)

pub value_small : (b : ℕ) → is_digit b ≡ true → value_of b < 16
value_small b e =
    ⊎_elim
    (λ low. omega (arith, value_flat b e, low.0, low.1))
    (λ high. omega (arith, value_flat b e, high.0, high.1))
    (digit_kinds b e)

-- ---- Numbers

-- one more digit of a part
one_digit : (n at next count : ℕ) (line : List ℕ) → suc at ≡ next → at < length line
    → number_after n (digits_from at (suc count) line) ≡ number_after (n * 16 + value_of (get_or line at 0)) (digits_from next count line)
unfolding number_after
one_digit n at next count line e h =
    ap (λ (l : List ℕ). number_after n (take (suc count) l)) (drop-cons line at 0 h)
    ∙ ap (λ (k : ℕ). number_after (n * 16 + value_of (get_or line at 0)) (digits_from k count line)) e

no_digit : (n at : ℕ) (line : List ℕ) → number_after n (digits_from at 0 line) ≡ n
unfolding number_after
no_digit n at line = refl

-- two more
pair_of : (n at count : ℕ) (line : List ℕ) → at + 2 ≤ length line
    → number_after n (digits_from at (suc (suc count)) line)
    ≡ number_after ((n * 16 + value_of (get_or line at 0)) * 16 + value_of (get_or line (at + 1) 0)) (digits_from (at + 2) count line)
pair_of n at count line h =
    one_digit n at (at + 1) (suc count) line (omega arith) (omega (arith, h))
    ∙ one_digit _ (at + 1) (at + 2) count line (omega arith) (omega (arith, h))

pub two_digits : (at : ℕ) (line : List ℕ) → at + 2 ≤ length line
    → number_of (digits_from at 2 line) ≡ value_of (get_or line at 0) * 16 + value_of (get_or line (at + 1) 0)
two_digits at line h = pair_of 0 at 0 line h ∙ no_digit _ (at + 2) line ∙ omega arith

two_more : (n at count : ℕ) (line : List ℕ) → at + 2 ≤ length line
    → number_after n (digits_from at (suc (suc count)) line) ≡ number_after (n * 0x100 + number_of (digits_from at 2 line)) (digits_from (at + 2) count line)
two_more n at count line h =
    pair_of n at count line h
    ∙ ap (λ (k : ℕ). number_after k (digits_from (at + 2) count line)) (omega (arith, two_digits at line h))

four_more : (n at : ℕ) (line : List ℕ) → at + 4 ≤ length line
    → number_after n (digits_from at 4 line) ≡ (n * 0x100 + number_of (digits_from at 2 line)) * 0x100 + number_of (digits_from (at + 2) 2 line)
four_more n at line h =
    two_more n at 2 line (omega (arith, h)) ∙ two_more _ (at + 2) 0 line (omega (arith, h)) ∙ no_digit _ (at + 2 + 2) line

pub four_digits : (at : ℕ) (line : List ℕ) → at + 4 ≤ length line
    → number_of (digits_from at 4 line) ≡ number_of (digits_from at 2 line) * 0x100 + number_of (digits_from (at + 2) 2 line)
four_digits at line h = four_more 0 at line h ∙ omega arith

pub six_digits : (at : ℕ) (line : List ℕ) → at + 6 ≤ length line
    → number_of (digits_from at 6 line) ≡ number_of (digits_from at 2 line) * 0x10000 + number_of (digits_from (at + 2) 4 line)
six_digits at line h =
    two_more 0 at 4 line (omega (arith, h))
    ∙ four_more _ (at + 2) line (omega (arith, h))
    ∙ omega (arith, four_digits (at + 2) line (omega (arith, h)))

-- a byte in two digits
pub digits_two : (n : ℕ) → digits_of 2 n ≡ digit_of (n / 16 % 16) ∷ digit_of (n % 16) ∷ []
unfolding digits_of
digits_two n = refl

pub small_two : (at : ℕ) (line : List ℕ) → at + 2 ≤ length line → every_listed is_digit line ≡ true → number_of (digits_from at 2 line) < 256
small_two at line h e =
    omega (
      arith,
      two_digits at line h,
      value_small (get_or line at 0) (every_at is_digit line e at (omega (arith, h))),
      value_small (get_or line (at + 1) 0) (every_at is_digit line e (at + 1) (omega (arith, h))),
    )

pub digits_long : (count n : ℕ) → length (digits_of count n) ≡ count
unfolding digits_of
digits_long zero n = refl
digits_long (suc count) n = length-append (digits_of count (n / 16)) (digit_of (n % 16) ∷ []) ∙ omega (arith, digits_long count (n / 16))

-- so fields of digits have as many as they say
pub digits_sized : {A : Type 0} (fields : List (ℕ × (A → ℕ))) (a : A) → Sized (in_digits fields) a
digits_sized [] a = tt
digits_sized (field ∷ fields) a = (digits_long field.0 (field.1 a), digits_sized fields a)

-- where a byte is no digit, not all are
pub not_all : (line : List ℕ) (i : ℕ) → i < length line → is_digit (get_or line i 0) ≡ false → false ≡ every_listed is_digit line
not_all line i h e = ⊎_elim (λ all. absurd (false≢true (sym e ∙ every_at is_digit line all i h))) (λ none. sym none) (true_or_false (every_listed
    is_digit line))

-- digits from a place on, one by one
pub pages_from : (line pages : List ℕ) (at count : ℕ) → length pages ≡ count → at + count ≤ length line
    → ((i : ℕ) → i < count → get_or pages i 0 ≡ value_of (get_or line (at + i) 0)) → pages ≡ map value_of (digits_from at count line)
pages_from line pages at count long within each =
    let digits = digits_from at count line in
    let so_many : length digits ≡ count = omega (arith, length-take-le count (drop at line) (omega (arith, within, length-drop at line))) in
    same_number_lists pages (map value_of digits) (omega (arith, long, so_many, length-map digits value_of)) (
    λ k h.
    let here : k < count = omega (arith, h, long) in
    each k here
    ∙ ap value_of (sym (get_or-drop at line k 0) ∙ sym (get_or-take count (drop at line) k 0 here))
    ∙ sym (get_or-map value_of digits k 0 0 (omega (arith, here, so_many))))

-- ---- Which bytes are digits, by a bit for each

each_bit : all_below (λ k. cond (eqb (0x7E03FF / 2 ^ k % 2) 1) (is_digit (0x30 + k)) (not (is_digit (0x30 + k)))) 23 ≡ true
unfolding all_below
each_bit = refl

pub digit_bit : (b : ℕ) → 0x30 ≤ b → b ≤ 0x46 → eqb (0x7E03FF / 2 ^ (b - 0x30) % 2) 1 ≡ is_digit b
digit_bit b low high =
    let place : 0x30 + (b - 0x30) ≡ b = omega (arith, low) in
    same_tests_below (λ k. eqb (0x7E03FF / 2 ^ k % 2) 1) (λ k. is_digit (0x30 + k)) 23 each_bit (b - 0x30) (omega (arith, low, high))
    ∙ ap (λ (k : ℕ). is_digit k) place
