-- The laws of parts laid one behind the other: how long they are together, that they are found again, and that they may be put one by one.
use mathlib.Core.Path.{◌≡◌, refl, sym, ap, ap₂, ◌∙◌}
use mathlib.Core.List.{List, [], ◌∷◌, ◌++◌, append-nil, append_assoc}
use Prim.Native.Nat.{ℕ, suc, ◌+◌, ◌-◌, ◌≤◌}
use native.Mathlib.Omega.{arith}
use borrow.Rule.Slice.PartMut.{put_mid, Post-is}
use lib.ListN.{length, take, drop, set, length-append, take-append-drop}
use lib.Seq.{sets, sets-eq, length-sets, drop-length, take_at, drop_at, drop-drop}
use Rattle.words.specs.Parts.{Part, widths_of, total, parts_of, laid, laid_out, cut_from, cut, put_from, Sized}

-- ---- Writing behind what was written

-- a run of stores is two runs
pub sets_append : (xs ys l : List ℕ) (i : ℕ) → sets l i (xs ++ ys) ≡ sets (sets l i xs) (i + length xs) ys
sets_append [] ys l i = ap (λ (k : ℕ). sets l k ys) (none i)
  where
    none : (k : ℕ) → k ≡ k + 0
    none k = omega arith
sets_append (x ∷ xs) ys l i = sets_append xs ys (set l i x) (suc i) ∙ ap (λ (k : ℕ). sets (sets (set l i x) (suc i) xs) k ys) (shift i (length xs))
  where
    shift : (j k : ℕ) → suc j + k ≡ j + suc k
    shift j k = omega arith

-- a place that is as long as what is put holds just that
pub sets_all : (l bytes : List ℕ) → length bytes ≡ length l → sets l 0 bytes ≡ bytes
sets_all l bytes e =
    let whole : 0 + length bytes ≡ length l = omega (arith, e) in
    sets-eq bytes l 0 (omega (arith, e))
    ∙ ap (λ (k : ℕ). bytes ++ drop k l) whole
    ∙ ap (λ (k : List ℕ). bytes ++ k) (drop-length l)
    ∙ append-nil bytes

-- what is put at the front is there, and what is behind it is as it was
pub put_front : (place bytes : List ℕ) → length bytes ≤ length place
    → (take (length bytes) (sets place 0 bytes) ≡ bytes) × (drop (length bytes) (sets place 0 bytes) ≡ drop (length bytes) place)
put_front place bytes room =
    let whole : 0 + length bytes ≡ length bytes = omega arith in
    let parts = sets-eq bytes place 0 (omega (arith, room)) ∙ ap (λ (k : ℕ). bytes ++ drop k place) whole in (
      ap (take (length bytes)) parts ∙ take_at bytes (drop (length bytes) place) (length bytes) refl,
      ap (drop (length bytes)) parts ∙ drop_at bytes (drop (length bytes) place) (length bytes) refl,
    )

-- a part that was lent, filled from end to end, is put at its place
part_put : (place part : List ℕ) (at end : ℕ) → at ≤ end → end ≤ length place → length part ≡ end - at
    → put_mid at (end - at) place part ≡ sets place at part
part_put place part at end ordered within long =
    let behind : end ≡ at + length part = omega (arith, ordered, long) in
    ap (λ (l : List ℕ). take at place ++ (part ++ l)) (Post-is at end place ordered)
    ∙ sym (append_assoc (take at place) part (drop end place))
    ∙ ap (λ (k : ℕ). take at place ++ part ++ drop k place) behind
    ∙ sym (sets-eq part place at (omega (arith, within, behind)))

-- behind what fills the front, the next part
pub filled_next : (place place' front part : List ℕ) (at end : ℕ) → place' ≡ sets place 0 front → length front ≡ at → at ≤ end → end ≤ length place
    → length part ≡ end - at → put_mid at (end - at) place' part ≡ sets place 0 (front ++ part)
filled_next place place' front part at end so here ordered within long =
    let next : at ≡ 0 + length front = omega (arith, here) in
    part_put place' part at end ordered (omega (arith, within, ap length so, length-sets place 0 front)) long
    ∙ ap (λ (l : List ℕ). sets l at part) so
    ∙ ap (λ (k : ℕ). sets (sets place 0 front) k part) next
    ∙ sym (sets_append front part place 0)

-- ---- Parts

module _ {A : Type 0} (a : A) where
  pub laid_long : (parts : List (Part A)) → Sized parts a → length (laid_out parts a) ≡ total (widths_of parts)
  laid_long [] sized = refl
  laid_long (p ∷ parts) sized =
      length-append (p.bytes a) (laid_out parts a) ∙ ap₂ (λ (n m : ℕ). n + m) sized.0 (laid_long parts sized.1)

  -- put one by one, they are put as one
  pub parts_put : (parts : List (Part A)) (place : List ℕ) (at : ℕ) → Sized parts a → put_from place at parts a ≡ sets place at (laid_out parts a)
  parts_put [] place at sized = refl
  parts_put (p ∷ parts) place at sized =
      parts_put parts (sets place at (p.bytes a)) (at + p.width) sized.1
      ∙ ap (λ (k : ℕ). sets (sets place at (p.bytes a)) (at + k) (laid_out parts a)) (sym sized.0)
      ∙ sym (sets_append (p.bytes a) (laid_out parts a) place at)

  -- and a place that is as long as they are holds just them
  pub parts_fill : (parts : List (Part A)) (place : List ℕ) → Sized parts a → length place ≡ total (widths_of parts)
      → put_from place 0 parts a ≡ laid_out parts a
  parts_fill parts place sized size =
      parts_put parts place 0 sized ∙ sets_all place (laid_out parts a) (laid_long parts sized ∙ sym size)

  -- cut by their widths, they are found again, also with something before them
  found_behind : (parts : List (Part A)) (before : List ℕ) (at : ℕ) → length before ≡ at → Sized parts a
      → cut_from at (widths_of parts) (before ++ laid_out parts a) ≡ parts_of parts a
  found_behind [] before at here sized = refl
  found_behind (p ∷ parts) before at here sized =
      ap₂ (λ (bytes : List ℕ) (more : List (List ℕ)). bytes ∷ more)
      (ap (take p.width) (drop_at before (p.bytes a ++ laid_out parts a) at here) ∙ take_at (p.bytes a) (laid_out parts a) p.width sized.0)
      (ap (cut_from (at + p.width) (widths_of parts)) (sym (append_assoc before (p.bytes a) (laid_out parts a)))
      ∙ found_behind parts (before ++ p.bytes a) (at + p.width)
      (length-append before (p.bytes a) ∙ ap₂ (λ (n m : ℕ). n + m) here sized.0) sized.1)

  pub cut_laid : (parts : List (Part A)) → Sized parts a → cut (widths_of parts) (laid_out parts a) ≡ parts_of parts a
  cut_laid parts sized = found_behind parts [] 0 refl sized

-- what was cut, laid again, is what it was cut from
laid_from : (widths bytes : List ℕ) (at : ℕ) → length bytes ≡ at + total widths → laid (cut_from at widths bytes) ≡ drop at bytes
laid_from [] bytes at size =
    let whole : at ≡ length bytes = omega (arith, size) in sym (ap (λ (k : ℕ). drop k bytes) whole ∙ drop-length bytes)
laid_from (width ∷ widths) bytes at size =
    ap (λ (l : List ℕ). take width (drop at bytes) ++ l) (laid_from widths bytes (at + width) (omega (arith, size)) ∙ sym (drop-drop width at bytes))
    ∙ take-append-drop width (drop at bytes)

pub laid_cut : (widths bytes : List ℕ) → length bytes ≡ total widths → laid (cut widths bytes) ≡ bytes
laid_cut widths bytes size = laid_from widths bytes 0 (omega (arith, size))
