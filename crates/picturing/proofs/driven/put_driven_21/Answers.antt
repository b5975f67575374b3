-- Pins 21 to 40.
use mathlib.Core.Path.{refl}
use Rattle.words.specs.Below.{list_below}
use Rattle.words.specs.Among.{beside}
use Rattle.pins.specs.Pin.{pin_table}
use Rattle.picturing.proofs.FiveLaws.{five_stored}
use Rattle.picturing.proofs.driven.put_driven_21.Goals as goal

pub returns : goal.returns
unfolding list_below beside pin_table
returns c =
    five_stored c.args.five.now c.told-five
    refl
    refl
    c.pin_digit.ensures
    c.pin_digit-2.ensures
    c.pin_digit-3.ensures
