-- Sets of sixteen cards: the short tests of the code say the same as the definitions, which ask card by card.
use Prim.Native.Nat.{ℕ, ◌+◌, ◌/◌, ◌^◌, ◌<◌, ◌≤◌}
use mathlib.Core.Path.{◌≡◌, refl, sym, ap, ap₂, ◌∙◌}
use mathlib.Core.Logic.{◌⊎◌, inl, inr}
use mathlib.Core.Bool.{Bool, true, false, not, ◌||◌, and-eq-true_iff, true≢false}
use native.Mathlib.Nat.{le_dest, div-eq_of_lt, lt_of_lt_of_le, add-zero}
use native.Mathlib.Decide.{dec_lt}
use native.Mathlib.Omega.{arith}
use lib.Dec.{eqb, ltb}
use lib.Bits.{bit_or, or_lt}
use lib.Pow.{pow_pos, pow_mono, shr-shr}
use borrow.Author.Tests.{ltb-true, lt-ltb, eqb-true, eq-eqb, not-true, not-false}
use Rattle.words.specs.Bits.{bit_at}
use Rattle.words.specs.Below.{all_below}
use Rattle.words.proofs.TestLaws.{true_or_false, tests_same, then_of, of_then}
use Rattle.words.proofs.BitLaws.{bits_same, bit_above, bit_high, bit_or_holds}
use Rattle.words.proofs.BelowLaws.{all_at, all_of, some_not}
use Rattle.cards.specs.Cards.{card_in, some_card, is_within}

adds_nothing : (a b : Bool) → (a || b) ≡ b → (not a || b) ≡ true
adds_nothing true b e = sym e
adds_nothing false b e = refl

added_none : (a b : Bool) → (not a || b) ≡ true → (a || b) ≡ b
added_none true b e = sym e
added_none false b e = refl

-- who is in a set is one of the sixteen
pub card_below : (cards n : ℕ) → card_in cards n ≡ true → n < 16
card_below cards n e = ltb-true n 16 ((and-eq-true_iff (ltb n 16) (bit_at cards n)).0 e).0

pub card_bit : (cards n : ℕ) → n < 16 → card_in cards n ≡ bit_at cards n
card_bit cards n h = rw (lt-ltb n 16 h)

pub some_card_holds : (cards : ℕ) → cards < 2 ^ 16 → not (eqb cards 0) ≡ some_card cards
unfolding some_card
some_card_holds cards h = ap not (tests_same _ _ none empty)
  where
    none : eqb cards 0 ≡ true → all_below (λ n. not (card_in cards n)) 16 ≡ true
    none e =
        all_of _ 16 (λ n k.
        ap not (card_bit cards n k ∙ ap (λ (x : ℕ). bit_at x n) (eqb-true cards 0 e) ∙ bit_above n 0 (pow_pos n)))

    empty : all_below (λ n. not (card_in cards n)) 16 ≡ true → eqb cards 0 ≡ true
    empty e =
        eq-eqb cards 0 (bits_same 16 h (pow_pos 16) (λ n k.
        sym (card_bit cards n k) ∙ not-true (card_in cards n) (all_at _ 16 e n k) ∙ sym (bit_above n 0 (pow_pos n))))

pub is_within_holds : (cards others : ℕ) → cards < 2 ^ 16 → others < 2 ^ 16 → eqb (bit_or cards others) others ≡ is_within cards others
unfolding is_within
is_within_holds cards others hc ho = tests_same _ _ each whole
  where
    both : (n : ℕ) → n < 16 → bit_at (bit_or cards others) n ≡ (card_in cards n || card_in others n)
    both n k = bit_or_holds cards others n ∙ sym (ap₂ ◌||◌ (card_bit cards n k) (card_bit others n k))

    each : eqb (bit_or cards others) others ≡ true → all_below (λ n. not (card_in cards n) || card_in others n) 16 ≡ true
    each e =
        all_of _ 16 (λ n k.
        adds_nothing (card_in cards n) (card_in others n)
        (sym (both n k) ∙ ap (λ (x : ℕ). bit_at x n) (eqb-true (bit_or cards others) others e) ∙ sym (card_bit others n k)))

    whole : all_below (λ n. not (card_in cards n) || card_in others n) 16 ≡ true → eqb (bit_or cards others) others ≡ true
    whole e =
        eq-eqb (bit_or cards others) others (bits_same 16 (or_lt 16 cards others hc ho) ho (λ n k.
        both n k ∙ added_none (card_in cards n) (card_in others n) (all_at _ 16 e n k) ∙ card_bit others n k))

-- ---- What the tests on sets say of each card

pub within_at : (cards others : ℕ) → is_within cards others ≡ true → (n : ℕ) → card_in cards n ≡ true → card_in others n ≡ true
unfolding is_within
within_at cards others e n c = then_of (card_in cards n) (card_in others n) (all_at _ 16 e n (card_below cards n c)) c

pub within_of : (cards others : ℕ) → ((n : ℕ) → card_in cards n ≡ true → card_in others n ≡ true) → is_within cards others ≡ true
unfolding is_within
within_of cards others each = all_of _ 16 (λ n h. of_then (card_in cards n) (card_in others n) (each n))

pub some_at : (cards : ℕ) → some_card cards ≡ true → (n : ℕ) × (card_in cards n ≡ true)
unfolding some_card
some_at cards e =
    let found = some_not (λ n. not (card_in cards n)) 16 (not-true _ e) in
    (found.0, not-false _ found.1.1)

pub none_at : (cards : ℕ) → some_card cards ≡ false → (n : ℕ) → card_in cards n ≡ false
unfolding some_card
none_at cards e n = go (true_or_false (card_in cards n))
  where
    go : (card_in cards n ≡ true) ⊎ (card_in cards n ≡ false) → card_in cards n ≡ false
    go (inl c) = not-true _ (all_at _ 16 (not-false _ e) n (card_below cards n c))
    go (inr f) = f

pub some_of : (cards n : ℕ) → card_in cards n ≡ true → some_card cards ≡ true
some_of cards n c = go (true_or_false (some_card cards))
  where
    go : (some_card cards ≡ true) ⊎ (some_card cards ≡ false) → some_card cards ≡ true
    go (inl t) = t
    go (inr f) = absurd (true≢false (sym c ∙ none_at cards f n))

pub none_of : (cards : ℕ) → ((n : ℕ) → card_in cards n ≡ false) → some_card cards ≡ false
unfolding some_card
none_of cards each = ap not (all_of _ 16 (λ n h. ap not (each n)))

pub none_in_empty : (n : ℕ) → card_in 0 n ≡ false
none_in_empty n = go (true_or_false (card_in 0 n))
  where
    go : (card_in 0 n ≡ true) ⊎ (card_in 0 n ≡ false) → card_in 0 n ≡ false
    go (inl c) = card_bit 0 n (card_below 0 n c) ∙ bit_above n 0 (pow_pos n)
    go (inr f) = f

-- ---- What is left of a set from card n on, card n as card 0

module _ (cards n : ℕ) {left : ℕ} (from : left ≡ cards / 2 ^ n) where
  -- its first card
  pub left_first : n < 16 → card_in left 0 ≡ card_in cards n
  left_first h =
      ap (λ (x : ℕ). bit_at x 0) from ∙ bit_high cards n 0 ∙ ap (bit_at cards) (add-zero n) ∙ sym (card_bit cards n h)

  -- what is left after that card
  pub left_next : left / 2 ≡ cards / 2 ^ (n + 1)
  left_next = ap (λ (x : ℕ). x / 2) from ∙ shr-shr cards n 1

  -- where some card is left, n is one of the sixteen
  pub left_some : cards < 2 ^ 16 → 0 < left → n < 16
  left_some h some = go (dec_lt n 16)
    where
      go : Dec (n < 16) → n < 16
      go (yes below) = below
      go (no beyond) = omega (arith, from ∙ div-eq_of_lt (lt_of_lt_of_le h (pow_mono {i = 16} {j = n} (omega arith))))

  -- where none is, no card from n on is in the set
  pub left_none : left ≤ 0 → (k : ℕ) → n ≤ k → k < 16 → card_in cards k ≡ false
  left_none none k l h =
      let i = le_dest l in
      let empty : left ≡ 0 = omega arith in
      card_bit cards k h
      ∙ ap (bit_at cards) (sym i.1)
      ∙ sym (bit_high cards n i.0)
      ∙ ap (λ (x : ℕ). bit_at x i.0) (sym from ∙ empty)
      ∙ bit_above i.0 0 (pow_pos i.0)
