-- The small sets, by computation.
use mathlib.Core.Path.{refl}
use Rattle.words.specs.Below.{all_below}
use Rattle.cards.specs.Cards.{some_card, is_within}
use Rattle.cards.specs.Examples.{OneAndThree}

pub one_and_three : OneAndThree
unfolding all_below some_card is_within
one_and_three = record {
  three = refl;
  two = refl;
  sixteen = refl;
  some = refl;
  zero_alone = refl;
  none = refl;
  within = refl;
  not_within = refl;
}
