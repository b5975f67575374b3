-- What is promised of the words that a reader could take in two ways. The proof of each stands in proofs/ under its name in lower case, with underscores.
use Rattle.std.specs.Prelude.{ℕ, ◌<◌, ◌≡◌, ◌↔◌, Bool, true, false, List}
use Rattle.words.specs.First.{Reason, first_of, applies_as, ascends_from, least_below, highest_below}

-- Of reasons in the order of their numbers, n is given exactly if n applies and no lower number does;
abbrev pub FirstByNumber : Type 0
FirstByNumber =
    (reasons : List Reason) → ascends_from 0 reasons ≡ true → (n : ℕ) → 0 < n
    → (first_of reasons ≡ n) ↔ ((applies_as n reasons ≡ true) × ((k : ℕ) → k < n → applies_as k reasons ≡ false))

-- and 0 exactly if none applies.
abbrev pub NoneApplies : Type 0
NoneApplies =
    (reasons : List Reason) → ascends_from 0 reasons ≡ true → (first_of reasons ≡ 0) ↔ ((n : ℕ) → applies_as n reasons ≡ false)

-- The least number that passes passes, none below it does, and it is there where any is.
abbrev pub LeastPassing : Type 0
LeastPassing =
    (test : ℕ → Bool) (n k : ℕ) → k < n → test k ≡ true
    → (least_below test n < n) × ((test (least_below test n) ≡ true) × ((j : ℕ) → j < least_below test n → test j ≡ false))

-- The highest number that passes passes, none between it and the bound does, and it is there where any is;
abbrev pub HighestPassing : Type 0
HighestPassing =
    (test : ℕ → Bool) (n other k : ℕ) → k < n → test k ≡ true
    → (highest_below test n other < n)
    × ((test (highest_below test n other) ≡ true) × ((j : ℕ) → highest_below test n other < j → j < n → test j ≡ false))

-- where none is, the other stands for it.
abbrev pub HighestOfNone : Type 0
HighestOfNone = (test : ℕ → Bool) (n other : ℕ) → ((k : ℕ) → k < n → test k ≡ false) → highest_below test n other ≡ other
