-- The pictures of specs/Examples, computed by the definitions.
use mathlib.Core.Path.{refl, ◌∙◌}
use Rattle.words.specs.Below.{all_below, list_below}
use Rattle.words.specs.Among.{is_among, every_listed, beside, who_has}
use Rattle.words.specs.First.{least_below}
use Rattle.phases.specs.Signal.{signals_in}
use Rattle.phases.specs.Control.{strobe_of, control_in}
use Rattle.text.specs.Digits.{digits_of}
use Rattle.pins.specs.Pin.{pin_table}
use Rattle.pins.specs.Moments.{moments_of}
use Rattle.pins.specs.ReadAgain.{gathered, picture_in}
use Rattle.pins.proofs.TableLaws.{by_rows, lines_by_rows, lines_by_rows_holds}
use Rattle.pins.specs.Examples.{Sizes, Stars, Standing, Cycling, Telling}

pub sizes : Sizes
sizes = record { digits = refl }

pub stars : Stars
unfolding list_below beside pin_table
stars = record { starred = refl }

pub standing : Standing
unfolding is_among beside signals_in strobe_of control_in digits_of pin_table moments_of by_rows lines_by_rows
standing = record {
  idle = lines_by_rows_holds _ ∙ refl;
  arbitration = lines_by_rows_holds _ ∙ refl;
  transfer_two = lines_by_rows_holds _ ∙ refl;
  refused = lines_by_rows_holds _ ∙ refl;
}

pub cycling : Cycling
unfolding is_among beside signals_in strobe_of control_in digits_of pin_table moments_of by_rows lines_by_rows
cycling = record {
  word = lines_by_rows_holds _ ∙ refl;
  word_again = lines_by_rows_holds _ ∙ refl;
  split = lines_by_rows_holds _ ∙ refl;
  split_again = lines_by_rows_holds _ ∙ refl;
  read = lines_by_rows_holds _ ∙ refl;
  write = lines_by_rows_holds _ ∙ refl;
  fetch = lines_by_rows_holds _ ∙ refl;
  output = lines_by_rows_holds _ ∙ refl;
  input = lines_by_rows_holds _ ∙ refl;
  owned = lines_by_rows_holds _ ∙ refl;
}

pub telling : Telling
unfolding all_below every_listed least_below beside who_has digits_of pin_table gathered picture_in
telling = record {
  idle = refl;
  arbitration = refl;
  adsb = refl;
  sdsb = refl;
  dodsb = refl;
  cdsb = refl;
  owned = refl;
  undriven = refl;
  low = refl;
  short = refl;
  long = refl;
  ended = refl;
  first = refl;
  last = refl;
  two = refl;
}
