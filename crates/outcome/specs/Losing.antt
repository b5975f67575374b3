-- Where a card loses an arbitration, and to whom (02, CR 4): asked of lines that are settled.
use Rattle.std.specs.Prelude.{ℕ, Bool, not, ◌&&◌, get_or}
use Rattle.words.specs.Bits.{bit_at}
use Rattle.words.specs.First.{highest_below}
use Rattle.cards.specs.Cards.{card_in}
use Rattle.bus.specs.State.{nobody}
use Rattle.bus.specs.declared.state.Bus.{Bus}

-- the place of a line where there is none
abbrev pub no_line : ℕ
no_line = 0xFF

-- at this line the card's number has 0, and the lines show 1
abbrev pub is_outbid_at : ℕ → ℕ → ℕ → Bool
is_outbid_at card lines line = not (bit_at card line) && bit_at lines line

-- the highest such line of the four
abbrev pub line_lost : ℕ → ℕ → ℕ
line_lost card lines = highest_below (is_outbid_at card lines) 4 no_line

-- this card contends, and drives the line
abbrev pub drives_line : Bus → ℕ → ℕ → Bool
drives_line bus line card = card_in bus.contenders card && bit_at (get_or bus.driven card 0) line

-- the highest-numbered card of the sixteen that does
abbrev pub rival_at : Bus → ℕ → ℕ
rival_at bus line = highest_below (drives_line bus line) 16 nobody
