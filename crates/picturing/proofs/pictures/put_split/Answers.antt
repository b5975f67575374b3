-- Two lines, one behind the other.
use mathlib.Core.Path.{sym, ap₂, ◌∙◌}
use mathlib.Core.List.{◌++◌}
use Rattle.pins.specs.Moments.{even_moment, odd_moment}
use Rattle.pins.proofs.DigitLaws.{two_long}
use Rattle.picturing.proofs.FilledLaws.{two_put}
use Rattle.picturing.proofs.LevelLaws.{quieted_line}
use Rattle.picturing.proofs.pictures.put_split.Goals as goal

pub returns-clause-put : goal.returns-clause-put
returns-clause-put c =
    let cycle = c.args.cycle in
    sym (two_long (even_moment cycle.event cycle.answer) (odd_moment cycle.event cycle.answer))

pub returns-clause-left : goal.returns-clause-left
returns-clause-left c =
    let cycle = c.args.cycle in
    let even = even_moment cycle.event cycle.answer in
    let odd = odd_moment cycle.event cycle.answer in
    ap₂ ◌++◌ (c.put_line.ensures ∙ quieted_line even c.even.ensures) (c.put_line-2.ensures ∙ quieted_line odd c.odd.ensures)
    ∙ two_put c.args.lines.now even odd c.told-lines
