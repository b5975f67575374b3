-- The words at small numbers, computed.
use Prim.Native.Nat.{ℕ, ◌+◌, ◌-◌}
use mathlib.Core.Path.{◌≡◌, refl}
use mathlib.Core.Bool.{true, false}
use mathlib.Core.List.{List, [], ◌∷◌}
use lib.Dec.{leb, ltb}
use Rattle.words.specs.Bits.{bit_at}
use Rattle.words.specs.Below.{all_below, or_below}
use Rattle.words.specs.Among.{is_among, every_listed, beside, has_beside, every_row}
use Rattle.words.specs.Parts.{Part, widths_of, total, laid_out, place_of, nth_part, put_from}
use Rattle.words.specs.First.{Reason, reason, first_of, applies_as, ascends_from, least_below, highest_below}

-- 10 has its ones at the places 3 and 1
pub ones_of_ten : (bit_at 10 3 ≡ true) × (bit_at 10 2 ≡ false) × (bit_at 10 1 ≡ true) × (bit_at 10 0 ≡ false)
ones_of_ten = (refl, refl, refl, refl)

-- all numbers below 3 are below 3, and not all of those below 4
pub below_three : (all_below (λ k. ltb k 3) 3 ≡ true) × (all_below (λ k. ltb k 3) 4 ≡ false)
unfolding all_below
below_three = (refl, refl)

-- the OR of 0, 1 and 2 is 3, where the greatest is 2; that of 0 to 3 is 3, where the sum is 6 and the exclusive OR 0; that of no numbers is 0
pub or_of_few : (or_below (λ k. k) 3 ≡ 3) × (or_below (λ k. k) 4 ≡ 3) × (or_below (λ k. k) 0 ≡ 0)
unfolding or_below
or_of_few = (refl, refl, refl)

-- 9 is in the list, and neither 3 nor 11 is
pub nine_among : (is_among 9 (4 ∷ 9 ∷ 10 ∷ []) ≡ true) × (is_among 3 (4 ∷ 9 ∷ 10 ∷ []) ≡ false) × (is_among 11 (4 ∷ 9 ∷ 10 ∷ []) ≡ false)
unfolding is_among
nine_among = (refl, refl, refl)

abbrev tens : List (ℕ × ℕ)
tens = (3, 30) ∷ (4, 40) ∷ (6, 60) ∷ []

-- 40 stands beside 4, and nothing beside 5
pub forty_beside : (◌≡◌ {A = ℕ} (beside 4 tens 0) 40) × (◌≡◌ {A = ℕ} (beside 3 tens 0) 30) × (◌≡◌ {A = ℕ} (beside 5 tens 7) 7)
unfolding beside
forty_beside = (refl, refl, refl)

pub four_has_beside : (has_beside 4 tens ≡ true) × (has_beside 6 tens ≡ true) × (has_beside 5 tens ≡ false)
unfolding has_beside
four_has_beside = (refl, refl, refl)

-- every row has a number below what stands beside it, and not every row has 30 or 40 there
pub rows_of_tens : (every_row (λ n row. ltb n row) tens ≡ true) × (every_row (λ n row. leb row 40) tens ≡ false)
unfolding every_row
rows_of_tens = (refl, refl)

-- every number in the list 0, 2 is at most 2, and not every one in 0, 3
pub two_at_most : (every_listed (λ n. leb n 2) (0 ∷ 2 ∷ []) ≡ true) × (every_listed (λ n. leb n 2) (0 ∷ 3 ∷ []) ≡ false)
unfolding all_below every_listed
two_at_most = (refl, refl)

abbrev two_five_six : List Reason
two_five_six = reason 2 false ∷ reason 5 true ∷ reason 6 true ∷ []

-- of reasons 2, 5 and 6 the first that applies is given, and 0 where none does
pub five_first : (first_of two_five_six ≡ 5) × (first_of (reason 2 false ∷ []) ≡ 0)
unfolding first_of
five_first = (refl, refl)

-- 5 applies among them and 2 does not; they ascend, and 6 before 5 would not
pub five_applies : (applies_as 5 two_five_six ≡ true) × (applies_as 2 two_five_six ≡ false) × (ascends_from 0 two_five_six ≡ true)
    × (ascends_from 0 (reason 6 true ∷ reason 5 true ∷ []) ≡ false)
unfolding applies_as ascends_from
five_applies = (refl, refl, refl, refl)

-- the least number below 5 that is above 2, and the bound where none is above 9
pub three_least : (least_below (λ k. ltb 2 k) 5 ≡ 3) × (least_below (λ k. ltb 9 k) 5 ≡ 5)
unfolding least_below
three_least = (refl, refl)

-- the highest number below 5 that is below 3, and the other where none is above 9
pub two_highest : (highest_below (λ k. ltb k 3) 5 7 ≡ 2) × (highest_below (λ k. ltb 9 k) 5 7 ≡ 7)
unfolding highest_below
two_highest = (refl, refl)

-- a byte and then its two neighbours
abbrev byte_and_neighbours : List (Part ℕ)
byte_and_neighbours = record { width = 1; bytes = λ n. n ∷ [] } ∷ record { width = 2; bytes = λ n. (n - 1) ∷ (n + 1) ∷ [] } ∷ []

-- of 7 they are 7, 6 and 8, three bytes; the parts are found where they were laid, and put into a place from its second byte on
pub seven_laid : (laid_out byte_and_neighbours 7 ≡ 7 ∷ 6 ∷ 8 ∷ []) × (total (widths_of byte_and_neighbours) ≡ 3)
    × (nth_part 0 (widths_of byte_and_neighbours) (7 ∷ 6 ∷ 8 ∷ []) ≡ 7 ∷ []) × (nth_part 1 (widths_of byte_and_neighbours) (7 ∷ 6 ∷ 8 ∷ []) ≡ 6 ∷ 8 ∷ [])
    × (place_of 0 (widths_of byte_and_neighbours) ≡ 0) × (place_of 1 (widths_of byte_and_neighbours) ≡ 1)
    × (put_from (1 ∷ 2 ∷ 3 ∷ 4 ∷ 5 ∷ []) 1 byte_and_neighbours 7 ≡ 1 ∷ 7 ∷ 6 ∷ 8 ∷ 5 ∷ [])
seven_laid = (refl, refl, refl, refl, refl, refl, refl)
