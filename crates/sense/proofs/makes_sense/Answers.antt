-- From what the calls ensure; the pages are an array of the right length.
use borrow.Author.Rules.{rules}
use Rattle.std.proofs.Common.{arith}
use Rattle.std.proofs.lemmas.Grind.{common_steps}
use Rattle.bus.proofs.SenseLaws.{sense_of_arrays}
use Rattle.sense.proofs.makes_sense.Goals as goal

pub returns-then-codes_known : goal.returns-then-codes_known
returns-then-codes_known c =
    let arrays = sense_of_arrays c.args.bus (search rules) in
    grind (arith, common_steps)

pub returns-else-codes_known : goal.returns-else-codes_known
returns-else-codes_known c =
    let arrays = sense_of_arrays c.args.bus (search rules) in
    grind (arith, common_steps)
