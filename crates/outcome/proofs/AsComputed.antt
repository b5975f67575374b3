-- The small cases, computed.
use mathlib.Core.Path.{refl}
use Rattle.words.specs.Below.{all_below, or_below}
use Rattle.words.specs.Among.{every_listed}
use Rattle.words.specs.First.{first_of, highest_below}
use Rattle.lines.specs.Look.{look}
use Rattle.lines.specs.Arbitration.{every_contender, shown, looked, settled}
use Rattle.cards.specs.Cards.{some_card, is_within}
use Rattle.bus.specs.Sense.{driving_fits, standing_fits, makes_sense}
use Rattle.bus.specs.Steps.{after_looks_of}
use Rattle.outcome.specs.Outcomes.{outcome_refusal, settled_outcome, outcome_of}
use Rattle.outcome.specs.Examples.{ThreeContend, SixteenContend, LowContend, AloneWins, OutcomeRefusals}

pub three_contend : ThreeContend
unfolding all_below or_below every_listed first_of highest_below look every_contender shown looked settled some_card is_within driving_fits standing_fits
    makes_sense after_looks_of outcome_refusal settled_outcome outcome_of
three_contend = record { four = refl; nine = refl; ten = refl; idle = refl; too_soon = refl; granted = refl }

pub sixteen_contend : SixteenContend
unfolding all_below or_below every_listed first_of highest_below look every_contender shown looked settled some_card is_within driving_fits standing_fits
    makes_sense after_looks_of outcome_refusal settled_outcome outcome_of
sixteen_contend = record { card_zero = refl; seven = refl; eight = refl; twelve = refl; thirteen = refl; fourteen = refl; fifteen = refl }

pub low_contend : LowContend
unfolding all_below or_below every_listed first_of highest_below look every_contender shown looked settled some_card is_within driving_fits standing_fits
    makes_sense after_looks_of outcome_refusal settled_outcome outcome_of
low_contend = record { three = refl; five = refl; six = refl }

pub alone_wins : AloneWins
unfolding all_below or_below every_listed first_of highest_below look every_contender shown looked settled some_card is_within driving_fits standing_fits
    makes_sense after_looks_of outcome_refusal settled_outcome outcome_of
alone_wins = record { card_zero = refl; card_one = refl; one_too_soon = refl }

pub outcome_refusals : OutcomeRefusals
unfolding all_below or_below every_listed first_of highest_below look every_contender shown looked settled some_card is_within driving_fits standing_fits
    makes_sense after_looks_of outcome_refusal settled_outcome outcome_of
outcome_refusals = record {
  senseless = refl;
  malformed = refl;
  malformed_high = refl;
  unfitted = refl;
  unfitted_there = refl;
  elsewhere = refl;
  owner = refl;
  idle = refl;
  unsettled = refl;
}
