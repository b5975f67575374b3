-- What `find` gives over numbers from the highest down to 0: the highest that passes.
use Prim.Native.Nat.{ℕ, ◌-◌}
use denote.Param.Members.{Mut}
use denote.Ref.{Bor}
use mathlib.Core.Path.{◌≡◌, sym, ap, subst, ◌∙◌}
use mathlib.Core.Bool.{Bool, true, false}
use mathlib.Core.List.{List, [], ◌∷◌}
use native.Mathlib.Omega.{arith}
use Rattle.std.specs.Prelude.{Option, Some, None, unwrap_or}
use Rattle.std.specs.Fn.{CalledAt}
use Rattle.std.specs.Iterator.{FindsItem, Yields}
use Rattle.std.specs.Iterator.Adapters.{rev_source, rev_steps}
use Rattle.std.specs.List.{FoldsTo}
use Rattle.std.specs.declared.iter.Rev.{Rev}
use Rattle.std.specs.declared.ops.Range.{Range}
use Rattle.std.proofs.iter.runs.Sources.{nat_range_steps_back}
use Rattle.words.specs.First.{highest_below}
use Rattle.words.proofs.FirstLaws.{highest_here, highest_passed, highest_ends}

module _ {F : Type 0} (g : Mut F (Bor ℕ × Unit {0}) Bool) (f : F) (test : ℕ → Bool) (other : ℕ)
    (asks : (x : ℕ) (b : Bool) (h : F) → CalledAt g f x b h → (h ≡ f) × (b ≡ test x)) where
  abbrev highest : Rev (Range ℕ) → ℕ
  highest s = highest_below test (rev_source s).end other

  -- those that were asked about are passed over
  passed : (xs : List ℕ) (s t : Rev (Range ℕ)) (h : F) → Yields (rev_steps nat_range_steps_back) s xs t
      → FoldsTo (λ p x q. CalledAt g p x false q) f xs h
      → ((rev_source t).start ≡ (rev_source s).start) × (h ≡ f) × (highest s ≡ highest t)
  passed [] s t h yields folds = (ap (λ (r : Rev (Range ℕ)). (rev_source r).start) (sym yields), sym folds, ap highest yields)
  passed (x ∷ xs) s t h yields folds =
      let next = yields.0 in
      let step = yields.1 in
      let asked = asks x false folds.0 folds.1 in
      let rest = passed xs next t h yields.2 (subst (λ (p : F). FoldsTo (λ p x q. CalledAt g p x false q) p xs h) asked.0 folds.2) in
      let at : (rev_source s).end - 1 ≡ x = omega (arith, step.1.1, step.1.2) in
      let down : (rev_source s).end - 1 ≡ (rev_source next).end = omega (arith, step.1.2) in (
        rest.0 ∙ step.0,
        rest.1,
        highest_passed test (rev_source s).end other (omega (arith, step.1.2)) (ap test at ∙ sym asked.1)
            ∙ ap (λ (n : ℕ). highest_below test n other) down
            ∙ rest.2,
      )

  pub found_from_the_top : (n : ℕ) (s u : Rev (Range ℕ)) (found : Option ℕ) → rev_source s ≡ record { start = 0; end = n }
      → FindsItem (rev_steps nat_range_steps_back) g s f found u → unwrap_or found other ≡ highest_below test n other
  found_from_the_top n s u found source finds =
      let zero : (rev_source s).start ≡ 0 = ap (λ (r : Range ℕ). r.start) source in
      from_source found zero finds ∙ ap (λ (r : Range ℕ). highest_below test r.end other) source
    where
      from_source : (found : Option ℕ) → (rev_source s).start ≡ 0 → FindsItem (rev_steps nat_range_steps_back) g s f found u
          → unwrap_or found other ≡ highest s
      from_source None zero finds =
          let last = finds.2.0 in
          let before = passed finds.0 s last finds.1 finds.2.1 finds.3 in
          sym (before.2 ∙ highest_ends test (rev_source last).end other (omega (arith, before.0, zero, finds.2.2.1.0)))
      from_source (Some x) zero finds =
          let last = finds.2.0 in
          let step = finds.2.2 in
          let before = passed finds.0 s last finds.1 finds.2.1 finds.3 in
          let at : (rev_source last).end - 1 ≡ x = omega (arith, step.1.1, step.1.2) in
          let called = subst (λ (p : F). CalledAt g p x true finds.4.0) before.1 finds.4.1 in
          let passes : test ((rev_source last).end - 1) ≡ true = ap test at ∙ sym (asks x true finds.4.0 called).1 in
          sym (before.2 ∙ highest_here test (rev_source last).end other (omega (arith, step.1.2)) passes ∙ at)
