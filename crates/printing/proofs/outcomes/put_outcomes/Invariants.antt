-- The lines of the cards so far stand at the front of the place.
use mathlib.Core.Path.{◌≡◌}
use lib.Seq.{sets}
use Rattle.text.specs.OutcomeLine.{outcomes_below}
use Rattle.printing.proofs.outcomes.put_outcomes.Given as goal

abbrev pub invariant-loop-card : goal.invariant-loop-card
invariant-loop-card l = l.out ≡ sets l.initial.out 0 (outcomes_below l.bus l.card)
