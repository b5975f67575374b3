-- The first of several that applies: of reasons to refuse, by number, and of the numbers below a bound the least that passes a test; and the
-- highest that does.
use Rattle.std.specs.Prelude.{ℕ, zero, suc, Bool, true, false, cond, ◌&&◌, ◌||◌, List, [], ◌∷◌, eqb, ltb}

-- a reason to refuse: the number it is given as, and whether it applies
pub record Reason : Type 0 where
  pub number : ℕ
  pub applies : Bool

abbrev pub reason : ℕ → Bool → Reason
reason number applies = record { number = number; applies = applies }

-- the number of the first reason that applies, or 0 where none does
unfoldable pub first_of : List Reason → ℕ
first_of [] = 0
first_of (r ∷ reasons) = cond r.applies r.number (first_of reasons)

-- some reason of this number applies
unfoldable pub applies_as : ℕ → List Reason → Bool
applies_as n [] = false
applies_as n (r ∷ reasons) = eqb r.number n && r.applies || applies_as n reasons

-- the reasons stand in the order of their numbers, which are above m
unfoldable pub ascends_from : ℕ → List Reason → Bool
ascends_from m [] = true
ascends_from m (r ∷ reasons) = ltb m r.number && ascends_from r.number reasons

-- the least number below the bound that passes the test, or the bound itself where none does
unfoldable pub least_below : (ℕ → Bool) → ℕ → ℕ
least_below test zero = 0
least_below test (suc n) = cond (test 0) 0 (suc (least_below (λ k. test (suc k)) n))

-- the highest number below the bound that passes the test, or the other where none does
unfoldable pub highest_below : (ℕ → Bool) → ℕ → ℕ → ℕ
highest_below test zero other = other
highest_below test (suc n) other = cond (test n) n (highest_below test n other)
