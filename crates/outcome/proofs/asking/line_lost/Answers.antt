-- The search from the top finds the highest.
use Rattle.std.proofs.Common.{rules}
use Rattle.outcome.specs.Losing.{no_line, is_outbid_at}
use Rattle.outcome.proofs.FromTheTop.{found_from_the_top}
use Rattle.outcome.proofs.asking.line_lost.Goals as goal

pub returns-clause-which : goal.returns-clause-which
returns-clause-which c =
    found_from_the_top _ _ (is_outbid_at c.args.card c.args.lines) no_line (λ line asked after called. (search rules, search rules)) 4 _ _
    c.find.result c.rev.ensures.source c.find.ensures.ran
