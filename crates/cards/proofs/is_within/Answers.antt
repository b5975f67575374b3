-- By the law on sets of sixteen cards.
use Rattle.cards.proofs.CardLaws.{is_within_holds}
use Rattle.cards.proofs.is_within.Goals as goal

pub returns : goal.returns
returns c =
    is_within_holds c.args.cards c.args.others c.ranges.cards.fits c.ranges.others.fits
