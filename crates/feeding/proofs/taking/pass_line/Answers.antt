-- A line that has ended is passed over with its newline.
use mathlib.Core.Path.{◌∙◌}
use mathlib.Core.List.{[]}
use Rattle.session.specs.declared.state.Stage.TheVariants.{Ended}
use Rattle.session.proofs.LineLaws.{passed, not_taken}
use Rattle.feeding.proofs.taking.pass_line.Goals as goal

pub returns-then-end-rest : goal.returns-then-end-rest
returns-then-end-rest c =
    λ wanted m p.
    c.told.ensures
    ∙ passed wanted c.args.bus c.args.rest.now c.line_end-end.result c.line_end-end.ensures c.if-end-rest.true m p

pub returns-else-end-rest : goal.returns-else-end-rest
returns-else-end-rest c =
    λ wanted m p.
    c.told-else-end-rest.ensures
    ∙ (not_taken wanted Ended c.args.bus c.args.rest.now [] c.line_end-end.result c.line_end-end.ensures
    c.if-end-rest.false).0 m p
