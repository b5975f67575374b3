-- The outputs of specs/Examples, computed by the definitions.
use mathlib.Core.Path.{refl}
use Rattle.words.specs.Below.{all_below, or_below}
use Rattle.words.specs.Among.{every_listed, beside}
use Rattle.words.specs.First.{first_of, least_below}
use Rattle.lines.specs.Arbitration.{every_contender, shown, looked, settled}
use Rattle.phases.specs.Signal.{signals_in}
use Rattle.cards.specs.Cards.{some_card, is_within}
use Rattle.bus.specs.Sense.{driving_fits, standing_fits, makes_sense}
use Rattle.outcome.specs.Outcomes.{outcome_refusal, settled_outcome, outcome_of}
use Rattle.text.specs.Digits.{number_after, digits_of}
use Rattle.text.specs.Newlines.{lines_after, last_line}
use Rattle.text.specs.OutcomeLine.{outcomes_below}
use Rattle.text.specs.Reading.{answers_to}
use Rattle.session.specs.World.{wanted_by, outcomes_left, says_by, turns_by, fresh_world}
use Rattle.session.specs.Examples.{
  SetupOutputs,
  BadLineOutputs,
  PictureOutputs,
  OutcomeOutputs,
  WantedNumbers,
  MostWritten,
  FreshSession,
  CallRefusals,
}

pub setup_outputs : SetupOutputs
unfolding beside signals_in every_listed all_below least_below or_below shown number_after digits_of lines_after last_line answers_to says_by
    turns_by fresh_world
setup_outputs = record {
  accepted = refl;
  unended = refl;
  page = refl;
  too_short = refl;
  lower_case = refl;
  short_lower = refl;
  page_and_space = refl;
  two_wrong = refl;
  lower_unended = refl;
  blank = refl;
}

pub bad_line_outputs : BadLineOutputs
unfolding beside signals_in every_listed all_below least_below or_below shown number_after digits_of lines_after last_line answers_to says_by
    turns_by fresh_world
bad_line_outputs = record { each = refl; misspelt = refl; returns = refl; cut = refl }

pub picture_outputs : PictureOutputs
unfolding beside signals_in every_listed all_below least_below or_below shown number_after digits_of lines_after last_line answers_to says_by
    turns_by fresh_world
picture_outputs = record { set_up = refl; bad = refl; misspelt = refl; refused = refl; refused_lower = refl }

pub outcome_outputs : OutcomeOutputs
unfolding beside signals_in every_listed all_below least_below or_below first_of every_contender shown looked settled some_card is_within
    driving_fits standing_fits
    makes_sense outcome_refusal settled_outcome outcome_of number_after digits_of lines_after last_line outcomes_below answers_to outcomes_left
    says_by turns_by fresh_world
outcome_outputs = record { refused = refl; unended = refl; blank = refl; empty = refl; free = refl }

pub wanted_numbers : WantedNumbers
unfolding wanted_by
wanted_numbers = record { answers = refl; pictures = refl; outcomes = refl; other = refl }

pub most_written : MostWritten
most_written = record { answers = refl; pictures = refl; outcomes = refl }

pub fresh_session : FreshSession
fresh_session = record { waits = refl; no_cards = refl; no_pages = refl }

pub call_refusals : CallRefusals
unfolding all_below every_listed some_card is_within driving_fits standing_fits makes_sense
call_refusals = record { full = λ m p fit. rw fit; too_full = refl; no_memory = refl; no_sense = λ m p fit. rw fit }
