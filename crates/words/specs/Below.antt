-- What is asked of, or gathered from, every number below a bound, in ascending order.
use Rattle.std.specs.Prelude.{ℕ, zero, suc, Bool, true, ◌&&◌, List, [], ◌∷◌}
use Rattle.std.specs.Int.Bits.{bit_or}

-- the test holds of each number below the bound
unfoldable pub all_below : (ℕ → Bool) → ℕ → Bool
all_below test zero = true
all_below test (suc n) = all_below test n && test n

-- the OR, bit by bit, of what f gives for each number below the bound
unfoldable pub or_below : (ℕ → ℕ) → ℕ → ℕ
or_below f zero = 0
or_below f (suc n) = bit_or (or_below f n) (f n)

-- what f gives for each number below the bound, one behind the other
unfoldable pub list_below : {A : Type 0} → (ℕ → A) → ℕ → List A
list_below f zero = []
list_below f (suc n) = f 0 ∷ list_below (λ k. f (suc k)) n
