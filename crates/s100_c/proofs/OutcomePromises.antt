-- The call on the outcome for a card does what the model does, or nothing.
use mathlib.Core.Path.{refl}
use lib.ListN.{length}
use borrow.Author.Tests.{eq-eqb}
use Rattle.s100_c.specs.Layout.{state_size}
use Rattle.s100_c.specs.Outcomes.{outcome_size, outcome_answers, outcome_leaves}
use Rattle.s100_c.specs.Promises.{OutcomeIsTheOutcome, OutcomeMisfits}
use Rattle.s100_c.proofs.CallLaws.{lengths_misfit}

pub outcome_is_the_outcome : OutcomeIsTheOutcome
unfolding outcome_answers outcome_leaves
outcome_is_the_outcome state place card answer line rival whole long is =
    rw (eq-eqb (length state) state_size whole, eq-eqb (length place) outcome_size long, is) (refl, refl)

pub outcome_misfits : OutcomeMisfits
unfolding outcome_answers outcome_leaves
outcome_misfits state place card wrong = rw (lengths_misfit (length state) (length place) state_size outcome_size wrong) (refl, refl)
