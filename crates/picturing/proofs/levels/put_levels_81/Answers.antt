-- Pins 81 to 100.
use Rattle.words.specs.Below.{list_below}
use Rattle.words.specs.Among.{beside}
use Rattle.pins.specs.Pin.{pin_table}
use Rattle.picturing.proofs.FiveLaws.{five_stored}
use Rattle.picturing.proofs.levels.put_levels_81.Goals as goal

pub returns : goal.returns
unfolding list_below beside pin_table
returns c =
    five_stored c.args.five.now c.told-five
    (rw (c.bit_at.ensures, c.bit_at-2.ensures, c.bit_at-3.ensures, c.bit_at-4.ensures) at c.pin_digit.ensures)
    (rw (c.bit_at-5.ensures, c.bit_at-6.ensures, c.bit_at-7.ensures, c.bit_at-8.ensures, c.from-dout.ensures) at c.pin_digit-2.ensures)
    (rw (c.bit_at-9.ensures, c.bit_at-10.ensures, c.bit_at-11.ensures, c.bit_at-12.ensures, c.from-dout.ensures, c.from-din.ensures) at c.pin_digit-3.ensures)
    (rw (c.bit_at-13.ensures, c.bit_at-14.ensures, c.bit_at-15.ensures, c.from-din.ensures) at c.pin_digit-4.ensures)
    (rw c.is_on.ensures at c.pin_digit-5.ensures)
