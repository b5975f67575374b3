-- A pin of a line, found by its number, is driven and high as the table's rule for it says.
use mathlib.Core.Path.{◌≡◌, refl, sym, ap, ◌∙◌}
use mathlib.Core.Bool.{Bool, true, false, cond, not, ◌&&◌}
use Prim.Native.Nat.{ℕ, zero, suc, ◌+◌, ◌-◌, ◌*◌, ◌/◌, ◌%◌, ◌<◌, ◌≤◌}
use native.Mathlib.Omega.{arith}
use lib.ListN.{get_or, get_or-append}
use lib.Seq.{get_or-append-add}
use Rattle.words.specs.Bits.{bit_at}
use Rattle.words.specs.Below.{list_below}
use Rattle.words.proofs.BelowLaws.{list_below_at}
use Rattle.text.specs.Digits.{value_of}
use Rattle.text.proofs.ReadBack.{digits_read_back}
use Rattle.pins.specs.BusLine.{is_driven, is_true}
use Rattle.pins.specs.Pin.{Pin, pin_at, is_high}
use Rattle.pins.specs.Picture.{four_bits, pins_digit, level_digits, levels_of, driven_of, picture_of}
use Rattle.pins.specs.ReadAgain.{high_on, driven_on}
use Rattle.pins.specs.declared.moments.Moment.{Moment}
use Rattle.pins.proofs.DigitLaws.{four_bits_small, levels_long}

-- ---- The bits of a digit

-- each of the four stands in its place
four_in_place : (a b c d : Bool)
    → (bit_at (four_bits a b c d) 3 ≡ a) × ((bit_at (four_bits a b c d) 2 ≡ b) × ((bit_at (four_bits a b c d) 1 ≡ c) × (bit_at (four_bits a b c d) 0 ≡ d)))
four_in_place true true true true = (refl, (refl, (refl, refl)))
four_in_place true true true false = (refl, (refl, (refl, refl)))
four_in_place true true false true = (refl, (refl, (refl, refl)))
four_in_place true true false false = (refl, (refl, (refl, refl)))
four_in_place true false true true = (refl, (refl, (refl, refl)))
four_in_place true false true false = (refl, (refl, (refl, refl)))
four_in_place true false false true = (refl, (refl, (refl, refl)))
four_in_place true false false false = (refl, (refl, (refl, refl)))
four_in_place false true true true = (refl, (refl, (refl, refl)))
four_in_place false true true false = (refl, (refl, (refl, refl)))
four_in_place false true false true = (refl, (refl, (refl, refl)))
four_in_place false true false false = (refl, (refl, (refl, refl)))
four_in_place false false true true = (refl, (refl, (refl, refl)))
four_in_place false false true false = (refl, (refl, (refl, refl)))
four_in_place false false false true = (refl, (refl, (refl, refl)))
four_in_place false false false false = (refl, (refl, (refl, refl)))

module _ (test : Pin → Bool) where
  -- a digit stands for its four bits
  digit_value : (k : ℕ) → value_of (pins_digit test k)
      ≡ four_bits (test (pin_at (4 * k + 1))) (test (pin_at (4 * k + 2))) (test (pin_at (4 * k + 3))) (test (pin_at (4 * k + 4)))
  digit_value k =
      let a = test (pin_at (4 * k + 1)) in
      let b = test (pin_at (4 * k + 2)) in
      let c = test (pin_at (4 * k + 3)) in
      let d = test (pin_at (4 * k + 4)) in
      (digits_read_back.0 (four_bits a b c d) (four_bits_small a b c d)).1

  -- by the place of the pin in its digit
  place_bit : (k j : ℕ) → j < 4 → bit_at (value_of (pins_digit test k)) (3 - j) ≡ test (pin_at (4 * k + 1 + j))
  place_bit k j h = ap (λ (n : ℕ). bit_at n (3 - j)) (digit_value k) ∙ go j h
    where
      four : ℕ → ℕ
      four i = 4 * k + i

      here : (i i' : ℕ) → i ≡ i' → test (pin_at i) ≡ test (pin_at i')
      here i i' e = ap (λ (n : ℕ). test (pin_at n)) e

      bits : (bit_at (four_bits (test (pin_at (four 1))) (test (pin_at (four 2))) (test (pin_at (four 3))) (test (pin_at (four 4)))) 3 ≡ test (pin_at (four 1)))
          × ((bit_at (four_bits (test (pin_at (four 1))) (test (pin_at (four 2))) (test (pin_at (four 3))) (test (pin_at (four 4)))) 2 ≡ test (pin_at (four 2)))
          × ((bit_at (four_bits (test (pin_at (four 1))) (test (pin_at (four 2))) (test (pin_at (four 3))) (test (pin_at (four 4)))) 1 ≡ test (pin_at (four 3)))
          × (bit_at (four_bits (test (pin_at (four 1))) (test (pin_at (four 2))) (test (pin_at (four 3))) (test (pin_at (four 4)))) 0 ≡ test
          (pin_at (four 4)))))
      bits = four_in_place (test (pin_at (four 1))) (test (pin_at (four 2))) (test (pin_at (four 3))) (test (pin_at (four 4)))

      go : (i : ℕ) → i < 4
          → bit_at (four_bits (test (pin_at (four 1))) (test (pin_at (four 2))) (test (pin_at (four 3))) (test (pin_at (four 4)))) (3 - i)
          ≡ test (pin_at (4 * k + 1 + i))
      go zero l = bits.0 ∙ here (4 * k + 1) (4 * k + 1 + 0) (omega arith)
      go (suc zero) l = bits.1.0 ∙ here (4 * k + 2) (4 * k + 1 + 1) (omega arith)
      go (suc (suc zero)) l = bits.1.1.0 ∙ here (4 * k + 3) (4 * k + 1 + 2) (omega arith)
      go (suc (suc (suc zero))) l = bits.1.1.1 ∙ here (4 * k + 4) (4 * k + 1 + 3) (omega arith)
      go (suc (suc (suc (suc i)))) l = absurd (omega (arith, l))

  -- of twenty-five digits the pin's own
  pin_bit : (n : ℕ) → 1 ≤ n → n ≤ 100
      → bit_at (value_of (get_or (list_below (pins_digit test) level_digits) ((n - 1) / 4) 0)) (3 - (n - 1) % 4) ≡ test (pin_at n)
  pin_bit n low high =
      let k = (n - 1) / 4 in
      let j = (n - 1) % 4 in
      let same : 4 * k + 1 + j ≡ n = omega (arith, low) in
      ap (λ (d : ℕ). bit_at (value_of d) (3 - j)) (list_below_at (pins_digit test) level_digits k 0 (omega (arith, high)))
      ∙ place_bit k j (omega arith)
      ∙ ap (λ (i : ℕ). test (pin_at i)) same

-- ---- The pins of a line

module _ (m : Moment) (n : ℕ) (low : 1 ≤ n) (high : n ≤ 100) where
  pub high_is : high_on (picture_of m) n ≡ is_high (pin_at n) m
  unfolding levels_of
  high_is =
      let k = (n - 1) / 4 in
      let front : get_or (picture_of m) (0 + k) 0 ≡ get_or (levels_of m) k 0 =
      ap (λ (i : ℕ). get_or (picture_of m) i 0) none ∙ get_or-append (levels_of m) (driven_of m) 0 k (omega (arith, high, levels_long m)) in
      ap (λ (d : ℕ). bit_at (value_of d) (3 - (n - 1) % 4)) front ∙ pin_bit (λ pin. is_high pin m) n low high
    where
      none : 0 + (n - 1) / 4 ≡ (n - 1) / 4
      none = omega arith

  pub driven_is : driven_on (picture_of m) n ≡ is_driven (pin_at n).line m
  unfolding driven_of
  driven_is =
      let k = (n - 1) / 4 in
      let behind : get_or (picture_of m) (level_digits + k) 0 ≡ get_or (driven_of m) k 0 =
      ap (λ (i : ℕ). get_or (picture_of m) (i + k) 0) (sym (levels_long m)) ∙ get_or-append-add (levels_of m) (driven_of m) k 0 in
      ap (λ (d : ℕ). bit_at (value_of d) (3 - (n - 1) % 4)) behind ∙ pin_bit (λ pin. is_driven pin.line m) n low high

  pub low_undriven : driven_on (picture_of m) n ≡ false → high_on (picture_of m) n ≡ false
  low_undriven none = high_is ∙ ap (λ (b : Bool). b && level) (sym driven_is ∙ none)
    where
      level : Bool
      level = cond (pin_at n).is_starred (not (is_true (pin_at n).line m)) (is_true (pin_at n).line m)
