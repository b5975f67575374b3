-- States, answers and calls written out, by computation.
use mathlib.Core.Path.{refl}
use Rattle.words.specs.Below.{all_below, or_below, list_below}
use Rattle.words.specs.Among.{every_listed, is_among, beside, who_has}
use Rattle.words.specs.First.{first_of, least_below, highest_below}
use Rattle.lines.specs.Look.{look}
use Rattle.lines.specs.Arbitration.{every_contender, shown, looked, settled, after_look}
use Rattle.phases.specs.Signal.{signals_in}
use Rattle.phases.specs.Control.{strobe_of, control_in}
use Rattle.cards.specs.Cards.{some_card, is_within}
use Rattle.bus.specs.Sense.{driving_fits, standing_fits, makes_sense}
use Rattle.bus.specs.Steps.{after_looks_of}
use Rattle.bus.specs.Settle.{settled_after, leading_looks, never_settles, settle_refusal, settle_of}
use Rattle.judgement.specs.Judge.{refusal_of}
use Rattle.events.specs.Step.{answer_to}
use Rattle.outcome.specs.Outcomes.{outcome_refusal, settled_outcome, outcome_of}
use Rattle.text.specs.Digits.{digits_of}
use Rattle.pins.specs.Pin.{pin_table}
use Rattle.pins.specs.Moments.{moments_of}
use Rattle.pins.specs.Picture.{levels_of, driven_of, lines_for}
use Rattle.pins.specs.ReadAgain.{gathered, picture_in}
use Rattle.s100_c.specs.Layout.{state_bytes, bus_in, answer_bytes, answer_in}
use Rattle.s100_c.specs.Calls.{step_answers, step_leaves}
use Rattle.s100_c.specs.Outcomes.{outcome_answers, outcome_leaves}
use Rattle.s100_c.specs.Examples.{BytesInPlace, FieldsInPlace, SetupCalls, StepCalls, SettleCalls, OutcomeCalls, PictureCalls}

pub bytes_in_place : BytesInPlace
unfolding bus_in state_bytes answer_bytes answer_in
bytes_in_place = record { read = refl; put = refl; answer_put = refl; answer_read = refl }

pub fields_in_place : FieldsInPlace
unfolding bus_in or_below shown makes_sense every_listed all_below
fields_in_place = record {
  fitted = refl;
  phase = refl;
  contenders = refl;
  granted = refl;
  page_zero = refl;
  last_page = refl;
  last_level = refl;
  no_such_card = refl;
  too_long = refl;
  empty = refl;
  lines = refl;
  no_lines = refl;
  senseless = refl;
  no_sense = refl;
}

pub setup_calls : SetupCalls
unfolding state_bytes every_listed all_below
setup_calls = record {
  answers = refl;
  leaves = refl;
  refused = refl;
  emptied = refl;
  fifteen = refl;
  fifteen_leaves = refl;
  short = refl;
  short_leaves = refl;
}

pub step_calls : StepCalls
unfolding step_answers step_leaves answer_to refusal_of first_of
step_calls = record {
  no_memory_answers = refl;
  no_memory_leaves = refl;
  short_answer_answers = refl;
  short_answer_leaves = refl;
  short_state_answers = refl;
  short_state_leaves = refl;
}

pub settle_calls : SettleCalls
unfolding bus_in state_bytes all_below or_below look every_contender shown looked settled after_look some_card is_within after_looks_of first_of least_below
    every_listed driving_fits standing_fits makes_sense settled_after leading_looks never_settles settle_refusal settle_of
settle_calls = record {
  answers = refl;
  counts = refl;
  leaves = refl;
  nine_answers = refl;
  nine_counts = refl;
  nine_leaves = refl;
  short_answers = refl;
  short_counts = refl;
}

pub outcome_calls : OutcomeCalls
unfolding bus_in all_below or_below look every_contender shown looked settled some_card is_within first_of highest_below every_listed driving_fits
    standing_fits makes_sense outcome_refusal settled_outcome outcome_of outcome_answers outcome_leaves
outcome_calls = record {
  nine_loses = refl;
  nine_answers = refl;
  ten_wins = refl;
  too_soon = refl;
  too_soon_answers = refl;
  no_card = refl;
  short_place = refl;
  short_place_left = refl;
  long_state = refl;
  long_state_left = refl;
}

pub picture_calls : PictureCalls
unfolding answer_in all_below every_listed least_below is_among list_below beside who_has signals_in strobe_of control_in digits_of pin_table moments_of
    levels_of driven_of lines_for gathered picture_in
picture_calls = record {
  answers = refl;
  leaves = refl;
  refused_answers = refl;
  refused_leaves = refl;
  short_answers = refl;
  short_leaves = refl;
  read_again = refl;
  read_left = refl;
  long_read = refl;
  long_left = refl;
  bad_read = refl;
  bad_left = refl;
  short_read = refl;
  short_left = refl;
}
