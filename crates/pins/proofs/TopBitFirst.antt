-- The reader finds a pin where the number that the digits write has it: pin 1 in the top place, pin 100 in the lowest.
use mathlib.Core.Path.{◌≡◌, sym, ap, ◌∙◌}
use mathlib.Core.Bool.{true}
use mathlib.Core.List.{List}
use Prim.Native.Nat.{ℕ, zero, suc, ◌+◌, ◌-◌, ◌*◌, ◌/◌, ◌%◌, ◌^◌, ◌<◌, ◌≤◌}
use native.Mathlib.Decide.{dec_lt}
use native.Mathlib.Omega.{arith}
use lib.Dec.{eqb}
use lib.ListN.{length, get_or, take, drop, length-drop}
use lib.Seq.{take-suc, take_all, get_or-drop}
use Rattle.words.specs.Bits.{bit_at}
use Rattle.words.specs.Among.{every_listed}
use Rattle.words.proofs.BitLaws.{bit_high}
use Rattle.words.proofs.ListLaws.{every_at, every_of}
use Rattle.text.specs.Digits.{is_digit, value_of, number_of, is_digits}
use Rattle.text.proofs.DigitLaws.{value_small}
use Rattle.text.proofs.FaultLaws.{all_digits_of}
use Rattle.text.proofs.ReadBack.{number_last}
use Rattle.pins.specs.ReadAgain.{high_on, driven_on}
use Rattle.pins.specs.Promises.{TopBitFirst}

-- ---- A digit behind a number

-- the number's places stand four higher,
above_digit : (x v i : ℕ) → v < 16 → bit_at (x * 16 + v) (4 + i) ≡ bit_at x i
above_digit x v i small =
    let rest : (x * 16 + v) / 16 ≡ x = omega (arith, small) in
    sym (bit_high (x * 16 + v) 4 i) ∙ ap (λ (y : ℕ). bit_at y i) rest

-- and the lowest four are the digit's
in_digit : (x v j : ℕ) → j < 4 → bit_at (x * 16 + v) j ≡ bit_at v j
in_digit x v j h = ap (λ (y : ℕ). eqb y 1) (odd j h)
  where
    odd : (i : ℕ) → i < 4 → (x * 16 + v) / 2 ^ i % 2 ≡ v / 2 ^ i % 2
    odd zero l = omega arith
    odd (suc zero) l = omega arith
    odd (suc (suc zero)) l = omega arith
    odd (suc (suc (suc zero))) l = omega arith
    odd (suc (suc (suc (suc i)))) l = absurd (omega (arith, l))

-- ---- Some digits

module _ (digits : List ℕ) (right : every_listed is_digit digits ≡ true) where
  -- the place of pin n among the first k digits
  pin_place : (k : ℕ) → k ≤ length digits → (n : ℕ) → 1 ≤ n → n ≤ 4 * k
      → bit_at (number_of (take k digits)) (4 * k - n) ≡ bit_at (value_of (get_or digits ((n - 1) / 4) 0)) (3 - (n - 1) % 4)
  pin_place zero long n low high = absurd (omega (arith, low, high))
  pin_place (suc k) long n low high =
      ap (λ (l : List ℕ). bit_at (number_of l) place) (take-suc digits k 0 (omega (arith, long)))
      ∙ ap (λ (x : ℕ). bit_at x place) (number_last 0 (take k digits) last)
      ∙ go (dec_lt (4 * k) n) (λ before. pin_place k (omega (arith, long)) n low before)
    where
      place : ℕ
      place = 4 * suc k - n

      last : ℕ
      last = get_or digits k 0

      front : ℕ
      front = number_of (take k digits)

      found : ℕ → ℕ → Type 0
      found number at = bit_at number at ≡ bit_at (value_of (get_or digits ((n - 1) / 4) 0)) (3 - (n - 1) % 4)

      go : Dec (4 * k < n) → (n ≤ 4 * k → found front (4 * k - n)) → found (front * 16 + value_of last) place
      go (yes inside) earlier =
          let here : (n - 1) / 4 ≡ k = omega (arith, inside, high) in
          let same : place ≡ 3 - (n - 1) % 4 = omega (arith, inside, high) in
          in_digit front (value_of last) place (omega (arith, inside))
          ∙ ap (bit_at (value_of last)) same
          ∙ ap (λ (i : ℕ). bit_at (value_of (get_or digits i 0)) (3 - (n - 1) % 4)) (sym here)
      go (no before) earlier =
          let apart : place ≡ 4 + (4 * k - n) = omega (arith, before) in
          ap (bit_at (front * 16 + value_of last)) apart
          ∙ above_digit front (value_of last) (4 * k - n) (value_small last (every_at is_digit digits right k (omega (arith, long))))
          ∙ earlier (omega (arith, before))

-- ---- A line

module _ (line : List ℕ) (n : ℕ) (right : is_digits 50 line ≡ true) (low : 1 ≤ n) (high : n ≤ 100) where
  long : length line ≡ 50
  long = (all_digits_of 50 line right).0

  all : every_listed is_digit line ≡ true
  all = (all_digits_of 50 line right).1

  of_levels : high_on line n ≡ bit_at (number_of (take 25 line)) (100 - n)
  of_levels =
      let at : 0 + (n - 1) / 4 ≡ (n - 1) / 4 = omega arith in
      ap (λ (i : ℕ). bit_at (value_of (get_or line i 0)) (3 - (n - 1) % 4)) at ∙ sym (pin_place line all 25 (omega (arith, long)) n low (omega (arith, high)))

  rest_long : length (drop 25 line) ≡ 25
  rest_long = omega (arith, length-drop 25 line, long)

  rest_all : every_listed is_digit (drop 25 line) ≡ true
  rest_all =
      every_of is_digit (drop 25 line)
      (λ i h. ap is_digit (get_or-drop 25 line i 0) ∙ every_at is_digit line all (25 + i) (omega (arith, h, rest_long, long)))

  of_driven : driven_on line n ≡ bit_at (number_of (drop 25 line)) (100 - n)
  of_driven =
      ap (λ (b : ℕ). bit_at (value_of b) (3 - (n - 1) % 4)) (sym (get_or-drop 25 line ((n - 1) / 4) 0))
      ∙ sym (pin_place (drop 25 line) rest_all 25 (omega (arith, rest_long)) n low (omega (arith, high)))
      ∙ ap (λ (l : List ℕ). bit_at (number_of l) (100 - n)) (take_all 25 (drop 25 line) (omega (arith, rest_long)))

pub top_bit_first : TopBitFirst
top_bit_first line n right low high = (of_levels line n right low high, of_driven line n right low high)
