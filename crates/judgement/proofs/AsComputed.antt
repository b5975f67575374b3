-- The small states' events and the columns, by computation.
use mathlib.Core.Path.{refl}
use Rattle.words.specs.Below.{all_below, or_below}
use Rattle.words.specs.Among.{beside, has_beside}
use Rattle.words.specs.First.{first_of}
use Rattle.lines.specs.Look.{look}
use Rattle.lines.specs.Arbitration.{every_contender, shown, looked, settled}
use Rattle.cards.specs.Cards.{some_card, is_within}
use Rattle.judgement.specs.Judge.{sound_refusal}
use Rattle.judgement.specs.Examples.{kinds_below, Columns, StepColumn, Fields, Cards, Order, Turns, Addresses}

pub columns : Columns
unfolding beside has_beside kinds_below
columns = record {
  kinds = refl;
  speaker = refl;
  address = refl;
  datum = refl;
  bytes = refl;
  wide = refl;
  cycles = refl;
  free = refl;
  arbitration = refl;
  granted = refl;
  transfer_one = refl;
  owned = refl;
  transfer_two = refl;
}

pub fields : Fields
unfolding beside has_beside first_of sound_refusal all_below some_card is_within
fields = record {
  kind_zero = refl;
  kind_past_last = refl;
  speaker_above = refl;
  stray_speaker = refl;
  stray_address = refl;
  stray_datum = refl;
  wide_byte = refl;
  wide_output = refl;
  byte = refl;
  output = refl;
  word = refl;
  stray_look_address = refl;
  stray_acknowledge_speaker = refl;
  stray_reset_datum = refl;
  stray_word_read_datum = refl;
  both = refl;
}

pub cards : Cards
unfolding beside has_beside first_of sound_refusal all_below some_card is_within
cards = record {
  request = refl;
  nobody = refl;
  unfitted = refl;
  look = refl;
  cycle = refl;
  give_back = refl;
  last_card = refl;
  master = refl;
  master_looks = refl;
  master_looks_then = refl;
}

pub step_column : StepColumn
unfolding beside
step_column = record { asking = refl; cycles = refl; ending = refl }

pub order : Order
unfolding beside has_beside first_of sound_refusal all_below or_below look every_contender shown looked settled some_card is_within
order = record {
  stray_nobody = refl;
  stray_unfitted = refl;
  stray_unsettled = refl;
  nobody_later = refl;
  unfitted_later = refl;
  idle_too_early = refl;
  odd_of_a_card = refl;
  absent_of_a_card = refl;
  odd_and_absent = refl;
}

pub turns : Turns
unfolding beside has_beside first_of sound_refusal all_below or_below look every_contender shown looked settled some_card is_within
turns = record {
  look_when_free = refl;
  look = refl;
  idle_look = refl;
  second_request = refl;
  request_in_transfer_two = refl;
  acknowledge = refl;
  unsettled_three = refl;
  zero_contends = refl;
  begin = refl;
  begin_other = refl;
  take_early = refl;
  take_then = refl;
  begin_two = refl;
  give_back = refl;
  reset = refl;
  card_when_free = refl;
  master_in_arbitration = refl;
  card_when_granted = refl;
  card_owns = refl;
  other_card = refl;
  master_when_owned = refl;
  phase_first = refl;
}

pub addresses : Addresses
unfolding beside has_beside first_of sound_refusal all_below some_card is_within
addresses = record {
  odd_word = refl;
  odd_byte = refl;
  odd_absent = refl;
  odd_beyond = refl;
  last_word = refl;
  absent = refl;
  absent_word = refl;
  absent_fetch = refl;
  absent_byte_write = refl;
  absent_write = refl;
  beyond = refl;
  last_port = refl;
  port_beyond = refl;
  out_beyond = refl;
}
