-- Each page's digit is read by the same call.
use borrow.Author.Rules.{rules}
use native.Mathlib.Omega.{arith}
use Prim.Native.Nat.{ℕ, zero, suc, ◌+◌, ◌<◌, ◌≤◌}
use mathlib.Core.Path.{◌≡◌, subst, ◌∙◌}
use native.Mathlib.Decide.{ℕ_discrete}
use mathlib.Core.List.{List}
use lib.ListN.{get_or}
use denote.Param.Members.{Called, Mut}
use Rattle.std.specs.Array.{IsFromFnResultFrom}
use Rattle.text.specs.Digits.{value_of}
use Rattle.text.specs.Frames.{setup_digits}
use Rattle.text.proofs.DigitLaws.{pages_from}
use Rattle.text.proofs.FaultLaws.{all_digits_of}
use Rattle.reading.proofs.line_reading.pages_in.Goals as goal

-- where each call of a function gives v of its index and leaves the function as it was, so are the elements
each_of : {F : Type 0} (g : Mut F (ℕ × Unit {0}) ℕ) (v : ℕ → ℕ) (f : F)
    → ((i y : ℕ) (q : F) → Called g f (i, tt) y q → (y ≡ v i) × (q ≡ f))
    → (ys : List ℕ) (i n k : ℕ) → IsFromFnResultFrom g f ys i n → i ≤ k → k < i + n → get_or ys k 0 ≡ v k
each_of g v f gives ys i zero k made from upto = absurd (omega (arith, from, upto))
each_of {F} g v f gives ys i (suc n) k (q, y, at, called, rest) from upto =
    let same = gives i y q called in
    let later = subst (λ (p : F). IsFromFnResultFrom g p ys (i + 1) n) same.1 rest in
    elim (ℕ_discrete i k) [
      | yes here ↦ subst (λ (p : ℕ). get_or ys p 0 ≡ v p) here (at.1 0 ∙ same.0)
      | no other ↦ each_of g v f gives ys (i + 1) n k later (omega (arith, from, other)) (omega (arith, upto))
    ]

pub returns : goal.returns
returns c =
    let line = c.args.line.line.now in
    let long = (all_digits_of setup_digits line c.args.line.right).0 in
    let made = c.from_fn.ensures.items in
    pages_from line c.from_fn.result 4 16 made.long (omega (arith, long)) (
    λ page h.
    each_of _ (λ i. value_of (get_or line (4 + i) 0)) _ (λ i y q called. let m = called.met in (search rules, search rules)) c.from_fn.result 0 16 page
    made.each (omega arith) h)
