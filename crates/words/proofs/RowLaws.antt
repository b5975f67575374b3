-- The laws of rows: what holds of each row, and of a number that has none, holds of every number.
use Prim.Native.Nat.{ℕ, ◌<◌}
use mathlib.Core.Path.{◌≡◌, refl, sym, ap, ◌∙◌, subst}
use mathlib.Core.Bool.{Bool, true, false, cond, ◌||◌, true≢false}
use mathlib.Core.List.{List, [], ◌∷◌}
use lib.Dec.{eqb}
use borrow.Author.Tests.{eqb-true, ne_eqb}
use Rattle.words.specs.Below.{all_below}
use Rattle.words.specs.Among.{is_among, beside, has_beside, every_row}
use Rattle.words.proofs.TestLaws.{both_of, neither_of, else_of}
use Rattle.words.proofs.BelowLaws.{all_at}

infixr 67 ◌and◌
-- this holds of every row, row by row
pub data EachRow {A : Type 0} (P : ℕ → A → Type 0) : List (ℕ × A) → Type 0 where
  end : EachRow P []
  ◌and◌ : {n : ℕ} {row : A} {rows : List (ℕ × A)} → P n row → EachRow P rows → EachRow P ((n, row) ∷ rows)

module _ {A : Type 0} where
  pub by_rows : (P : ℕ → A → Type 0) (rows : List (ℕ × A)) (other : A) → EachRow P rows
      → (n : ℕ) → (has_beside n rows ≡ false → P n other) → P n (beside n rows other)
  unfolding beside has_beside
  by_rows P _ other end n unlisted = unlisted refl
  by_rows P _ other (◌and◌ {n = k} {row = row} {rows = rows} here each) n unlisted = go (eqb n k) refl (by_rows P rows other each n)
    where
      go : (b : Bool) → eqb n k ≡ b → ((has_beside n rows ≡ false → P n other) → P n (beside n rows other))
          → P n (cond b row (beside n rows other))
      go true e later = subst (λ (m : ℕ). P m row) (sym (eqb-true n k e)) here
      go false e later = later (λ f. unlisted (ap (λ (b : Bool). b || has_beside n rows) e ∙ f))

  -- the same of a test
  each_passes : (test : ℕ → A → Bool) (rows : List (ℕ × A)) → every_row test rows ≡ true → EachRow (λ n row. test n row ≡ true) rows
  unfolding every_row
  each_passes test [] e = end
  each_passes test (x ∷ xs) e =
      let parts = both_of (test x.0 x.1) (every_row test xs) e in
      parts.0 and each_passes test xs parts.1

  pub rows_pass : (test : ℕ → A → Bool) (rows : List (ℕ × A)) (other : A) → every_row test rows ≡ true
      → (n : ℕ) → (has_beside n rows ≡ false → test n other ≡ true) → test n (beside n rows other) ≡ true
  rows_pass test rows other e = by_rows (λ n row. test n row ≡ true) rows other (each_passes test rows e)

  -- a number that has no row gets the other
  pub no_row_beside : (n : ℕ) (rows : List (ℕ × A)) (other : A) → has_beside n rows ≡ false → beside n rows other ≡ other
  unfolding beside has_beside
  no_row_beside n [] other none = refl
  no_row_beside n (x ∷ xs) other none =
      let parts = neither_of (eqb n x.0) (has_beside n xs) none in
      rw parts.0 (no_row_beside n xs other parts.1)

  -- and so does one that fails a test which the numbers of all rows pass
  pub rows_only : (test : ℕ → Bool) (rows : List (ℕ × A)) → every_row (λ k row. test k) rows ≡ true
      → (n : ℕ) → test n ≡ false → has_beside n rows ≡ false
  unfolding has_beside every_row
  rows_only test [] e n fails = refl
  rows_only test (x ∷ xs) e n fails =
      let parts = both_of (test x.0) (every_row (λ k row. test k) xs) e in
      rw (ne_eqb n x.0 (λ q. true≢false (sym parts.0 ∙ ap test (sym q) ∙ fails))) (rows_only test xs parts.1 n fails)

-- ---- What a function makes of each row

module _ {A B : Type 0} (f : A → B) where
  unfoldable pub of_each_row : List (ℕ × A) → List (ℕ × B)
  of_each_row [] = []
  of_each_row (x ∷ xs) = (x.0, f x.1) ∷ of_each_row xs

  pub beside_of : (n : ℕ) (rows : List (ℕ × A)) (other : A) → f (beside n rows other) ≡ beside n (of_each_row rows) (f other)
  unfolding beside of_each_row
  beside_of n [] other = refl
  beside_of n (x ∷ xs) other = go (eqb n x.0) (beside_of n xs other)
    where
      go : (b : Bool) → f (beside n xs other) ≡ beside n (of_each_row xs) (f other)
          → f (cond b x.1 (beside n xs other)) ≡ cond b (f x.1) (beside n (of_each_row xs) (f other))
      go true later = refl
      go false later = later

-- ---- The rest of a match

-- the number is none of these, as a match says it of those that it has tried, the last of them first
unfoldable pub NoneOf : ℕ → List ℕ → Type 0
NoneOf n [] = Unit
NoneOf n (x ∷ xs) = NoneOf n xs × (n ≡ x → ⊥)

pub none_among : (n : ℕ) (tried : List ℕ) → NoneOf n tried → is_among n tried ≡ false
unfolding NoneOf is_among
none_among n [] none = refl
none_among n (x ∷ xs) none = rw (ne_eqb n x none.1) (none_among n xs none.0)

-- what was computed of all numbers but those that a match has tried holds of its rest
pub rest_of_match : (test : ℕ → Bool) (tried : List ℕ) (bound : ℕ) → all_below (λ k. is_among k tried || test k) bound ≡ true
    → (n : ℕ) → n < bound → NoneOf n tried → test n ≡ true
rest_of_match test tried bound e n h none =
    else_of (is_among n tried) (test n) (all_at (λ k. is_among k tried || test k) bound e n h) (none_among n tried none)
