-- What is put for a line, where there is room for the most that is wanted.
use mathlib.Core.Path.{◌≡◌, refl, sym, ◌∙◌}
use mathlib.Core.List.{List}
use Prim.Native.Nat.{ℕ, ◌≤◌}
use native.Mathlib.Omega.{arith}
use borrow.Author.Tests.{eq-eqb, ne_eqb}
use lib.ListN.{length}
use lib.Seq.{sets}
use Rattle.events.specs.declared.answers.Answer.{Answer}
use Rattle.text.specs.AnswerLine.{answer_line, answer_length, bytes_put, printed}
use Rattle.text.proofs.ReadingLaws.{answer_long, printed_fits, bytes_fit}
use Rattle.session.specs.World.{wants_answers, wants_outcomes, wanted_by}
use Rattle.session.specs.declared.state.Wanted.TheVariants.{Answers, Pictures, Outcomes}

-- ---- What a number asks for

pub wants_answers_holds : (number : ℕ) → number ≡ wants_answers → wanted_by number ≡ Answers
unfolding wanted_by
wants_answers_holds number is = rw (eq-eqb number wants_answers is) refl

pub wants_outcomes_holds : (number : ℕ) → number ≡ wants_outcomes → wanted_by number ≡ Outcomes
unfolding wanted_by
wants_outcomes_holds number is = rw (ne_eqb number wants_answers (λ e. omega (arith, is, e)), eq-eqb number wants_outcomes is) refl

pub wants_pictures : (number : ℕ) → (number ≡ wants_answers → ⊥) → (number ≡ wants_outcomes → ⊥) → wanted_by number ≡ Pictures
unfolding wanted_by
wants_pictures number other neither = rw (ne_eqb number wants_answers other, ne_eqb number wants_outcomes neither) refl

-- ---- What is put

-- these bytes were counted, and stand at the front of the place
abbrev pub PutAs : List ℕ → List ℕ → ℕ → List ℕ → Type 0
PutAs bytes place written left = (written ≡ length bytes) × (left ≡ sets place 0 bytes)

module _ (place : List ℕ) (written : ℕ) (left : List ℕ) where
  pub answer_put : (answer : Answer) → answer_length ≤ length place → (written ≡ bytes_put place) × (left ≡ printed answer place)
      → PutAs (answer_line answer) place written left
  answer_put answer room put = (put.0 ∙ bytes_fit place room ∙ sym (answer_long answer), put.1 ∙ printed_fits answer place room)
