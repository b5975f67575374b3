-- What the closure gathers of each card.
use mathlib.Core.Path.{◌∙◌}
use mathlib.Core.Bool.{true, ◌&&◌, ◌||◌}
use lib.Dec.{ltb}
use Rattle.std.proofs.Common.{rules, tests}
use Rattle.std.proofs.lemmas.Iterator.{YieldsList-from_slice}
use Rattle.std.proofs.lemmas.Iterator.Consumers.{fold_from_yields_List}
use Rattle.words.proofs.ListLaws.{all_gathered, every_listed_holds}
use Rattle.cards.specs.Cards.{card_in}
use Rattle.cards.proofs.lists.all_in.Goals as goal

pub returns : goal.returns
returns c =
    fold_from_yields_List _ (λ all card. all && (ltb 15 card || card_in c.args.set card)) true _ c.fold.ensures.ran
    (YieldsList-from_slice c.args.cards.now cc)
    (λ all x b q k. search (rules, tests))
    ∙ all_gathered (λ card. ltb 15 card || card_in c.args.set card) true c.args.cards.now
    ∙ every_listed_holds _ _
