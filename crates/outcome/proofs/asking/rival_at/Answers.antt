-- The search from the top finds the highest.
use Rattle.std.proofs.Common.{rules}
use Rattle.bus.specs.State.{nobody}
use Rattle.outcome.specs.Losing.{drives_line}
use Rattle.outcome.proofs.FromTheTop.{found_from_the_top}
use Rattle.outcome.proofs.asking.rival_at.Goals as goal

pub returns-clause-which : goal.returns-clause-which
returns-clause-which c =
    found_from_the_top _ _ (drives_line c.args.bus c.args.line) nobody (λ card asked after called. (search rules, search rules)) 16 _ _
    c.find.result c.rev.ensures.source c.find.ensures.ran
