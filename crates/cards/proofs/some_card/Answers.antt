-- By the law on sets of sixteen cards.
use Rattle.cards.proofs.CardLaws.{some_card_holds}
use Rattle.cards.proofs.some_card.Goals as goal

pub returns : goal.returns
returns c =
    some_card_holds c.args.cards c.ranges.cards.fits
