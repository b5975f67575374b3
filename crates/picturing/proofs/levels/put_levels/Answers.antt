-- Twenty pins after twenty.
use mathlib.Core.Path.{ap, ◌∙◌}
use Rattle.picturing.proofs.FilledLaws.{levels_by_fives}
use Rattle.picturing.proofs.LevelLaws.{shown_levels, quieted_levels}
use Rattle.picturing.proofs.levels.put_levels.Goals as goal

pub returns : goal.returns
returns c =
    rw (c.put_levels_1.ensures, c.put_levels_21.ensures, c.put_levels_41.ensures, c.put_levels_61.ensures, c.put_levels_81.ensures) (
    levels_by_fives c.args.quiet.moment ∙ ap shown_levels c.args.quiet.undriven_counts_nothing ∙ quieted_levels c.args.quiet.moment)
