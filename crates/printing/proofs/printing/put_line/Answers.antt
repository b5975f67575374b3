-- The two parts of the line.
use Rattle.printing.proofs.LineLaws.{line_put}
use Rattle.printing.proofs.printing.put_line.Goals as goal

pub returns : goal.returns
returns c =
    line_put c.args.answer c.put_numbers.ensures c.put_cycle.ensures
