-- What a test on two lengths says, and what is answered where memory or ports have a wrong one.
use mathlib.Core.Path.{◌≡◌, refl, sym, ap}
use mathlib.Core.Logic.{inl}
use mathlib.Core.Bool.{Bool, true, false, ◌&&◌}
use Prim.Native.Nat.{ℕ}
use lib.Dec.{eqb}
use borrow.Author.Tests.{eqb-true}
use Rattle.words.specs.First.{first_of}
use Rattle.words.proofs.TestLaws.{both_of}
use Rattle.bus.specs.Refusal as Refusal
use Rattle.judgement.specs.Refusals.{has_wrong_buffers}
use Rattle.judgement.specs.Judge.{refusal_of}
use Rattle.judgement.specs.declared.event.Event.{Event}
use Rattle.events.specs.Machine.{Machine}
use Rattle.events.specs.Step.{refusal_in, answer_to}
use Rattle.events.specs.declared.answers.Answer.{Answer}
use Rattle.events.proofs.Refused.{refused_answers}

-- ---- Two lengths

pub lengths_fit : (a b n m : ℕ) → (eqb a n && eqb b m) ≡ true → (a ≡ n) × (b ≡ m)
lengths_fit a b n m fit = let both = both_of (eqb a n) (eqb b m) fit in (eqb-true a n both.0, eqb-true b m both.1)

pub lengths_misfit : (a b n m : ℕ) → ((a ≡ n) × (b ≡ m) → ⊥) → (eqb a n && eqb b m) ≡ false
lengths_misfit a b n m wrong = go (eqb a n && eqb b m) refl
  where
    go : (fit : Bool) → (eqb a n && eqb b m) ≡ fit → (eqb a n && eqb b m) ≡ false
    go true fit = absurd (wrong (lengths_fit a b n m fit))
    go false misfit = misfit

-- ---- Memory or ports of a wrong length are refused first.

pub refused_first : (m : Machine) (event : Event) → has_wrong_buffers m.memory m.ports ≡ true → refusal_in m event ≡ Refusal.wrong_buffers
unfolding refusal_of first_of
refused_first m event misfit = rw misfit refl

pub first_answer : (m : Machine) (event : Event) → has_wrong_buffers m.memory m.ports ≡ true → Refusal.wrong_buffers ≡ (answer_to m event).refusal
first_answer m event misfit =
    sym (ap (λ (a : Answer). a.refusal) ((refused_answers m event Refusal.wrong_buffers (refused_first m event misfit)).0 (inl refl)))
