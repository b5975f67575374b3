-- Pins 41 to 60.
use mathlib.Core.Path.{refl}
use Rattle.words.specs.Below.{list_below}
use Rattle.words.specs.Among.{beside}
use Rattle.pins.specs.Pin.{pin_table}
use Rattle.picturing.proofs.FiveLaws.{five_stored}
use Rattle.picturing.proofs.levels.put_levels_41.Goals as goal

pub returns : goal.returns
unfolding list_below beside pin_table
returns c =
    five_stored c.args.five.now c.told-five
    (rw (c.bit_at.ensures, c.bit_at-2.ensures, c.bit_at-3.ensures, c.is_on.ensures, c.from-din.ensures) at c.pin_digit.ensures)
    (rw (c.is_on-2.ensures, c.is_on-3.ensures, c.is_on-4.ensures) at c.pin_digit-2.ensures)
    refl
    (rw (c.bit_at-4.ensures, c.bit_at-5.ensures, c.from-dma.ensures) at c.pin_digit-3.ensures)
    (rw (c.bit_at-6.ensures, c.is_on-5.ensures, c.bit_at-7.ensures, c.is_on-6.ensures, c.from-dma.ensures) at c.pin_digit-4.ensures)
