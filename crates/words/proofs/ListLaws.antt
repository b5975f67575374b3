-- Laws of lists: who is in a list, and what an entry is once some entry has been set.
use mathlib.Core.Path.{◌≡◌, refl, sym, ap, ◌∙◌, subst}
use mathlib.Core.Logic.{◌⊎◌, inl, inr, ⊎_elim}
use mathlib.Core.Bool.{Bool, true, false, cond, ◌&&◌, false≢true}
use mathlib.Core.List.{List, [], ◌∷◌}
use Prim.Native.Nat.{ℕ, zero, suc, ◌<◌, ◌≤◌}
use native.Mathlib.Decide.{ℕ_discrete, dec_lt}
use native.Mathlib.Nat.{le_refl}
use native.Mathlib.Numerals.{add-one}
use native.Mathlib.Omega.{arith}
use lib.Dec.{eqb}
use lib.ListN.{length, get_or, set, take}
use lib.Seq.{take-length, get_or-set_same, get_or-set_other, set_out}
use borrow.Author.Tests.{eqb-true, eq-eqb, ne_eqb}
use Rattle.std.specs.List.{list_all, fold}
use Rattle.std.proofs.lemmas.List.Folds.{list_all_more}
use Rattle.words.specs.Below.{all_below}
use Rattle.words.specs.Among.{is_among, every_listed}
use Rattle.words.proofs.TestLaws.{either_of}
use Rattle.words.proofs.BelowLaws.{all_at, all_of}

-- nobody is in the empty list, and who is in a longer one is its head or in its tail
pub among_none : (n : ℕ) → is_among n [] ≡ true → ⊥
unfolding is_among
among_none n e = false≢true e

pub among_cases : (n x : ℕ) (xs : List ℕ) → is_among n (x ∷ xs) ≡ true → (n ≡ x) ⊎ (is_among n xs ≡ true)
unfolding is_among
among_cases n x xs e = ⊎_elim (λ t. inl (eqb-true n x t)) inr (either_of (eqb n x) (is_among n xs) e)

-- what is asked of every number in a list is asked of each of them
pub every_at : (test : ℕ → Bool) (numbers : List ℕ) → every_listed test numbers ≡ true → (i : ℕ) → i < length numbers → test (get_or numbers i 0) ≡ true
unfolding every_listed
every_at test numbers e i h = all_at _ (length numbers) e i h

pub every_of : (test : ℕ → Bool) (numbers : List ℕ) → ((i : ℕ) → i < length numbers → test (get_or numbers i 0) ≡ true) → every_listed test numbers ≡ true
unfolding every_listed
every_of test numbers each = all_of _ (length numbers) each

-- and asked one after the other
module _ {A : Type 0} (test : A → Bool) (items : List A) (other : A) where
  all_leading : (n : ℕ) → n ≤ length items → list_all test (take n items) ≡ all_below (λ i. test (get_or items i other)) n
  unfolding all_below
  all_leading zero h = refl
  all_leading (suc n) h =
      rw (← add-one n) (list_all_more test items n other h)
      ∙ ap (λ (b : Bool). b && test (get_or items n other)) (all_leading n (omega (arith, h)))

  pub one_by_one : list_all test items ≡ all_below (λ i. test (get_or items i other)) (length items)
  one_by_one = ap (list_all test) (sym (take-length items)) ∙ all_leading (length items) (le_refl (length items))

-- and gathered without stopping at the first that fails, from what was found before
pub all_gathered : {A : Type 0} (test : A → Bool) (so_far : Bool) (items : List A)
    → fold (λ all item. all && test item) so_far items ≡ (so_far && list_all test items)
all_gathered test true [] = refl
all_gathered test false [] = refl
all_gathered test true (item ∷ items) = all_gathered test (test item) items
all_gathered test false (item ∷ items) = all_gathered test false items

pub every_listed_holds : (test : ℕ → Bool) (numbers : List ℕ) → list_all test numbers ≡ every_listed test numbers
unfolding every_listed
every_listed_holds test numbers = one_by_one test numbers 0

-- the entry at j once the one at i has been set
pub get_d_set : (l : List ℕ) (i j v : ℕ) → i < length l → get_or (set l i v) j 0 ≡ cond (eqb j i) v (get_or l j 0)
get_d_set l i j v h = go (ℕ_discrete j i)
  where
    picks : (b : Bool) → eqb j i ≡ b → cond b v (get_or l j 0) ≡ cond (eqb j i) v (get_or l j 0)
    picks b e = ap (λ (c : Bool). cond c v (get_or l j 0)) (sym e)

    go : Dec (j ≡ i) → get_or (set l i v) j 0 ≡ cond (eqb j i) v (get_or l j 0)
    go (yes e) = ap (λ (x : ℕ). get_or (set l i v) x 0) e ∙ get_or-set_same l i v 0 h ∙ picks true (eq-eqb j i e)
    go (no other) = get_or-set_other l i j v 0 other ∙ picks false (ne_eqb j i other)

-- it is what it was, or j is the place that was set: so what holds of both holds of the entry, also where i is beyond the list
pub get_d_set_either : (P : ℕ → Type 0) (l : List ℕ) (i j v : ℕ) → P (get_or l j 0) → (j ≡ i → P v) → P (get_or (set l i v) j 0)
get_d_set_either P l i j v old new = go (dec_lt i (length l))
  where
    either : (b : Bool) → eqb j i ≡ b → P (cond b v (get_or l j 0))
    either true e = new (eqb-true j i e)
    either false e = old

    go : Dec (i < length l) → P (get_or (set l i v) j 0)
    go (yes h) = subst P (sym (get_d_set l i j v h)) (either (eqb j i) refl)
    go (no h) = subst P (sym (ap (λ (x : List ℕ). get_or x j 0) (set_out l i v (omega arith)))) old
