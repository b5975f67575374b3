-- What the closure gathers of each number.
use mathlib.Core.Path.{◌∙◌}
use mathlib.Core.Bool.{true, ◌&&◌}
use lib.Dec.{leb}
use Rattle.std.proofs.Common.{rules, tests}
use Rattle.std.proofs.lemmas.Iterator.{YieldsList-from_slice}
use Rattle.std.proofs.lemmas.Iterator.Consumers.{fold_from_yields_List}
use Rattle.words.proofs.ListLaws.{all_gathered, every_listed_holds}
use Rattle.cards.proofs.lists.all_at_most.Goals as goal

pub returns : goal.returns
returns c =
    fold_from_yields_List _ (λ all number. all && leb number c.args.most) true _ c.fold.ensures.ran (YieldsList-from_slice c.args.numbers.now cc)
    (λ all x b q k. search (rules, tests))
    ∙ all_gathered (λ number. leb number c.args.most) true c.args.numbers.now
    ∙ every_listed_holds _ _
