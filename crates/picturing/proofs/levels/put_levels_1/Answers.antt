-- Pins 1 to 20.
use mathlib.Core.Path.{refl}
use Rattle.words.specs.Below.{list_below}
use Rattle.words.specs.Among.{beside}
use Rattle.pins.specs.Pin.{pin_table}
use Rattle.picturing.proofs.FiveLaws.{five_stored}
use Rattle.picturing.proofs.levels.put_levels_1.Goals as goal

pub returns : goal.returns
unfolding list_below beside pin_table
returns c =
    five_stored c.args.five.now c.told-five
    refl
    refl
    refl
    (rw (c.bit_at.ensures, c.bit_at-2.ensures, c.bit_at-3.ensures, c.from-dma.ensures) at c.pin_digit.ensures)
    (rw (c.bit_at-4.ensures, c.is_on.ensures, c.is_on-2.ensures) at c.pin_digit-2.ensures)
