-- Whether a number stands in a list, what is asked of every number in it, and rows: what stands beside a number.
use Rattle.std.specs.Prelude.{ℕ, Bool, true, false, cond, ◌&&◌, ◌||◌, List, [], ◌∷◌, eqb, length, get_or}
use Rattle.words.specs.Below.{all_below}

unfoldable pub is_among : ℕ → List ℕ → Bool
is_among n [] = false
is_among n (x ∷ xs) = eqb n x || is_among n xs

-- the test holds of every number in the list
unfoldable pub every_listed : (ℕ → Bool) → List ℕ → Bool
every_listed test numbers = all_below (λ i. test (get_or numbers i 0)) (length numbers)

-- ---- Rows: a number, and what stands beside it

-- what is listed beside the number, or the other where it isn't listed
unfoldable pub beside : {A : Type 0} → ℕ → List (ℕ × A) → A → A
beside n [] other = other
beside n (x ∷ xs) other = cond (eqb n x.0) x.1 (beside n xs other)

-- the first number that this is listed beside, or the other where it isn't listed
unfoldable pub who_has : ℕ → List (ℕ × ℕ) → ℕ → ℕ
who_has value [] other = other
who_has value (x ∷ xs) other = cond (eqb value x.1) x.0 (who_has value xs other)

-- something is listed beside the number
unfoldable pub has_beside : {A : Type 0} → ℕ → List (ℕ × A) → Bool
has_beside n [] = false
has_beside n (x ∷ xs) = eqb n x.0 || has_beside n xs

-- the test holds of every row
unfoldable pub every_row : {A : Type 0} → (ℕ → A → Bool) → List (ℕ × A) → Bool
every_row test [] = true
every_row test (x ∷ xs) = test x.0 x.1 && every_row test xs
