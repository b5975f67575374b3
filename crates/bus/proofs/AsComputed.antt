-- The runs on small states, by computation.
use mathlib.Core.Path.{refl}
use Rattle.words.specs.Below.{all_below, or_below}
use Rattle.words.specs.Among.{every_listed, beside}
use Rattle.words.specs.First.{first_of, least_below}
use Rattle.lines.specs.Look.{look}
use Rattle.lines.specs.Arbitration.{every_contender, shown, looked, settled, after_look}
use Rattle.phases.specs.Signal.{signals_in}
use Rattle.cards.specs.Cards.{some_card, is_within}
use Rattle.bus.specs.Sense.{driving_fits, standing_fits, makes_sense}
use Rattle.bus.specs.Steps.{after_looks_of}
use Rattle.bus.specs.Settle.{settled_after, leading_looks, never_settles, settle_refusal, settle_of}
use Rattle.bus.specs.Examples.{RoundsOnTheBus, SettleOnTheBus, SettleRefusals, PrintedRun, ZeroAndOwnBits, OutOfTurn, OtherPages, Numbers, SenseCases}

pub rounds_on_the_bus : RoundsOnTheBus
unfolding all_below or_below look every_contender shown looked settled after_look some_card is_within after_looks_of
rounds_on_the_bus = record {
  start = refl;
  one = refl;
  two = refl;
  three = refl;
  three_refused = refl;
  four = refl;
  grant = refl;
}

pub settle_on_the_bus : SettleOnTheBus
unfolding all_below or_below look every_contender shown looked settled after_look some_card is_within
    after_looks_of first_of least_below every_listed driving_fits standing_fits makes_sense settled_after leading_looks never_settles settle_refusal settle_of
settle_on_the_bus = record {
  twelve = refl;
  twelve_accepted = refl;
  twelve_lines = refl;
  nine = refl;
  card_zero = refl;
  card_zero_looks = refl;
  card_one_looks = refl;
  card_one_unsettled = refl;
}

pub settle_refusals : SettleRefusals
unfolding all_below or_below look every_contender shown looked settled after_look some_card is_within
    after_looks_of first_of least_below every_listed driving_fits standing_fits makes_sense settled_after leading_looks never_settles settle_refusal settle_of
settle_refusals = record {
  senseless = refl;
  malformed = refl;
  unfitted = refl;
  elsewhere = refl;
  idle = refl;
  unsettled = refl;
}

pub printed_run : PrintedRun
unfolding beside signals_in all_below or_below look every_contender shown looked settled after_look some_card is_within
    after_looks_of every_listed driving_fits standing_fits makes_sense
printed_run = record { at_first = refl; as_printed = refl; back = refl }

pub zero_and_own_bits : ZeroAndOwnBits
unfolding all_below or_below look every_contender shown looked settled after_look some_card is_within
zero_and_own_bits = record {
  zero_settled = refl;
  zero_lines = refl;
  zero_granted = refl;
  once = refl;
  twice = refl;
}

pub out_of_turn : OutOfTurn
unfolding all_below or_below look every_contender shown looked settled after_look some_card is_within after_looks_of every_listed driving_fits
    standing_fits makes_sense
out_of_turn = record {
  request_nobody = refl;
  request_unfitted = refl;
  look_idle = refl;
  look_outside = refl;
  look_of_no_card = refl;
  acknowledge_nobody = refl;
  other_card = refl;
  too_soon = refl;
  not_owned = refl;
  not_yet = refl;
  cycle = refl;
  reset_anyhow = refl;
}

pub other_pages : OtherPages
other_pages = record { all = refl }

pub numbers : Numbers
numbers = record { low = refl; high = refl; of_lines = refl; none = refl; own = refl }

pub sense_cases : SenseCases
unfolding all_below or_below look every_contender shown looked settled after_look some_card is_within after_looks_of every_listed driving_fits
    standing_fits makes_sense
sense_cases = record {
  at_rest = refl;
  contending = refl;
  granted = refl;
  high_code = refl;
  no_phase = refl;
  unfitted_contender = refl;
  nobody_contends = refl;
  contends_elsewhere = refl;
  idle_drives = refl;
  stray_driving = refl;
  drives_too_much = refl;
  unfitted_grant = refl;
  no_card_granted = refl;
  granted_while_free = refl;
  bad_setup = refl;
}
