-- The lines of the cards so far stand at the front.
use mathlib.Core.Path.{refl, ap, ◌∙◌}
use native.Mathlib.Omega.{arith}
use Rattle.outcome.specs.Outcomes.{figures_of}
use Rattle.text.specs.OutcomeLine.{outcome_line, outcomes_below}
use Rattle.printing.proofs.LineLaws.{line_next}
use Rattle.printing.proofs.outcomes.put_outcomes.Goals as goal

pub loop-card-init : goal.loop-card-init
unfolding outcomes_below
loop-card-init c = refl

pub loop-card-preserved : goal.loop-card-preserved
loop-card-preserved c =
    let loop = c.loop-card in
    let line = c.put_outcome.ensures ∙ ap outcome_line (c.of-figures.ensures ∙ ap (figures_of loop.card) c.outcome_for.ensures) in
    let parts = rw c.unwrap.ensures at c.split_first_chunk_mut.ensures.cases in
    rw (c.split_at_mut-rest.ensures.front, parts.1, c.split_at_mut-rest.ensures.back, c.from.ensures) (
    line_next c.args.bus c.args.out.now loop.out loop.card loop.invariant c.put_outcome.new.line c.loop-card-test.true (omega arith) line)
