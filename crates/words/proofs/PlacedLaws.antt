-- The numbers below a bound, each with what a list has in its place; and the loops over them, where the code zips a range with a slice.
use mathlib.Core.Path.{◌≡◌, ap, ap₂, ◌∙◌}
use mathlib.Core.Bool.{Bool}
use mathlib.Core.List.{List}
use Prim.Native.Nat.{ℕ, ◌<◌}
use native.Mathlib.Nat.{zero-add}
use native.Mathlib.Omega.{arith}
use lib.ListN.{length, get_or}
use Rattle.std.specs.List.{list_all, zip, range_with_len}
use Rattle.std.proofs.lemmas.List.{get_or_default}
use Rattle.std.proofs.lemmas.List.FromFn.{length-range_with_len, get_or-range_with_len}
use Rattle.std.proofs.lemmas.Slice.Zip.{length-zip, get_or-zip}
use Rattle.std.proofs.iter.Yields.{fronts, nat_range_steps}
use Rattle.std.proofs.lemmas.Iterator.{YieldsList, YieldsList-from_slice, YieldsList-from_range, YieldsList-from_zip, zips}
use Rattle.std.proofs.lemmas.Iterator.Consumers.{YieldsList-turn, YieldsList-end}
use Rattle.std.specs.Prelude.{Option, Some, None}
use Rattle.std.specs.Iterator.{Yields}
use denote.Ref.{Bor}
use Rattle.std.specs.Iterator.Adapters.{zip_first, zip_second}
use Rattle.std.specs.Slice.Iter.{iter_rest}
use Rattle.std.specs.declared.iter.Zip.{Zip}
use Rattle.std.specs.declared.ops.Range.{Range}
use Rattle.std.proofs.Common.{Iter}
use Rattle.words.specs.Below.{all_below}
use Rattle.words.proofs.BelowLaws.{all_same}
use Rattle.words.proofs.ListLaws.{one_by_one}

module _ (numbers : List ℕ) (n : ℕ) (size : length numbers ≡ n) where
  abbrev pub placed : List (ℕ × ℕ)
  placed = zip (range_with_len 0 n) numbers

  pub as_many_placed : length placed ≡ n
  as_many_placed = length-zip (range_with_len 0 n) numbers ∙ omega (arith, length-range_with_len 0 n, size)

  pub placed_at : (k : ℕ) (other : ℕ × ℕ) → k < n → get_or placed k other ≡ (k, get_or numbers k 0)
  placed_at k other h =
      get_or-zip (range_with_len 0 n) numbers k other (omega (arith, length-range_with_len 0 n)) (omega (arith, size))
      ∙ ap₂ (λ (x y : ℕ). (x, y)) (get_or-range_with_len 0 n k other.0 h ∙ zero-add k) (get_or_default numbers k other.1 0 (omega (arith, size)))

  pub each_place_holds : (test : ℕ → ℕ → Bool) → list_all (λ (p : ℕ × ℕ). test p.0 p.1) placed ≡ all_below (λ i. test i (get_or numbers i 0)) n
  each_place_holds test =
      one_by_one (λ (p : ℕ × ℕ). test p.0 p.1) placed (0, 0)
      ∙ ap (all_below _) as_many_placed
      ∙ all_same _ _ n (λ k h. ap (λ (p : ℕ × ℕ). test p.0 p.1) (placed_at k (0, 0) h))

  -- what the code goes through, where it zips the numbers below n with a slice
  pub in_place_order : {s : Zip (Range ℕ) (Iter ℕ)} → zip_first s ≡ record { start = 0; end = n } → iter_rest (zip_second s) ≡ numbers
      → YieldsList (zips nat_range_steps fronts) (λ p. (p.0, p.1.now)) s placed
  in_place_order first second = YieldsList-from_zip (YieldsList-from_range 0 n n first (omega arith)) (YieldsList-from_slice numbers second)

  -- a turn of a loop over that, after what was gone through before,
  pub turn_placed : {s : Zip (Range ℕ) (Iter ℕ)} → YieldsList (zips nat_range_steps fronts) (λ p. (p.0, p.1.now)) s placed
      → (before : List (ℕ × Bor ℕ)) (t u : Zip (Range ℕ) (Iter ℕ)) (r : Option (ℕ × Bor ℕ)) (p : ℕ × Bor ℕ) → Yields (zips nat_range_steps fronts) s before t
      → r ≡ Some p → zips nat_range_steps fronts t r u
      → ◌≡◌ {A = ℕ × ℕ} (p.0, p.1.now) (length before, get_or numbers (length before) 0)
  turn_placed order before t u r p so_far some next =
      let turn = YieldsList-turn order before t so_far r u p some next in
      turn.1 ∙ placed_at (length before) _ (omega (arith, turn.0, as_many_placed))

  -- and its end
  pub end_placed : {s : Zip (Range ℕ) (Iter ℕ)} → YieldsList (zips nat_range_steps fronts) (λ p. (p.0, p.1.now)) s placed
      → (before : List (ℕ × Bor ℕ)) (t u : Zip (Range ℕ) (Iter ℕ)) (r : Option (ℕ × Bor ℕ)) → Yields (zips nat_range_steps fronts) s before t
      → r ≡ None → zips nat_range_steps fronts t r u
      → length before ≡ n
  end_placed order before t u r so_far none next = (YieldsList-end order before t so_far r u none next).1 ∙ as_many_placed
