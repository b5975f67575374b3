-- The lines and frames of specs/Examples, computed by the definitions.
use mathlib.Core.Path.{refl}
use Rattle.words.specs.Below.{all_below}
use Rattle.words.specs.Among.{every_listed}
use Rattle.words.specs.First.{least_below}
use Rattle.text.specs.Digits.{number_after, digits_of}
use Rattle.text.specs.Newlines.{has_newline, first_line, rest_of, lines_after, last_line}
use Rattle.text.specs.Reading.{answers_to, taken_within}
use Rattle.text.specs.Examples.{DigitsAndNeighbours, EventLines, SetupLines, WrongLines, AnswerInPlace, OutcomeInPlace, LinesOfTexts, Held, LinesWithRoom}

pub digits_and_neighbours : DigitsAndNeighbours
digits_and_neighbours = record {
  below_zero = refl;
  zero_to_nine = (refl, refl);
  above_nine = (refl, refl);
  a_to_f = (refl, refl);
  above_f = refl;
  lower_case = (refl, refl);
  others = (refl, (refl, (refl, refl)));
  values = (refl, (refl, (refl, refl)));
  written = (refl, (refl, (refl, refl)));
}

pub event_lines : EventLines
unfolding every_listed all_below least_below number_after has_newline first_line
event_lines = record {
  right = refl;
  event = refl;
  short = refl;
  long = refl;
  lower = refl;
  frame = refl;
  unended = refl;
  too_short = refl;
  too_long = refl;
  misspelt = refl;
  empty = refl;
  cut = refl;
}

pub setup_lines : SetupLines
unfolding every_listed all_below least_below number_after
setup_lines = record { right = refl; an_event = refl; too_long = refl; misspelt = refl }

pub wrong_lines : WrongLines
unfolding every_listed all_below least_below
wrong_lines = record {
  nothing = refl;
  too_short = refl;
  carriage_return = refl;
  short_and_misspelt = refl;
  empty = refl;
  first = refl;
  middle = refl;
  last = refl;
  small = refl;
  high = (refl, refl);
  short_with_return = refl;
  two = refl;
  all = refl;
}

pub answer_in_place : AnswerInPlace
unfolding digits_of
answer_in_place = record { line = refl; long = refl; room = refl; whole = refl; none = refl; behind = refl; too_short = refl }

pub outcome_in_place : OutcomeInPlace
unfolding digits_of
outcome_in_place = record { line = refl; nine = refl; long = refl; room = refl; none = refl }

pub lines_of_texts : LinesOfTexts
unfolding lines_after last_line
lines_of_texts = record { nothing = refl; newline_alone = refl; ended = refl; unended = refl; empty_between = refl; carriage_return = refl }

pub held : Held
unfolding has_newline
held = record { long = refl; right = refl; more = refl; lines = refl }

pub lines_with_room : LinesWithRoom
unfolding has_newline first_line rest_of lines_after last_line answers_to taken_within
lines_with_room = record { all = refl; two = refl; whole = refl; none = refl; first = refl }
