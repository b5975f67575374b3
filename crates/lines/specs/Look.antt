-- What a card drives on the priority lines once it has looked at them (000, 2.4.3.1, 2.8.3 and 2.8.4, rule 6; 01, "Looking and settling").
use Rattle.std.specs.Prelude.{ℕ, zero, suc, ◌+◌, ◌^◌, cond}
use Rattle.words.specs.Bits.{bit_at}

-- `look w number lines`: from the highest of the w places down, ones of the number are driven, until a place comes with a one on the lines and a
-- zero in the number. There the card has been outbid: that place and all below it stay undriven.
unfoldable pub look : ℕ → ℕ → ℕ → ℕ
look zero number lines = 0
look (suc k) number lines =
    cond (bit_at number k) (2 ^ k + look k number lines)
    (cond (bit_at lines k) 0
    (look k number lines))
