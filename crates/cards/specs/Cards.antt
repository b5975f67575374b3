-- Sets of cards: a number with bit n for card n, of which there are sixteen (01, "Events").
use Rattle.std.specs.Prelude.{ℕ, Bool, not, ◌&&◌, ◌||◌, List, ltb}
use Rattle.words.specs.Bits.{bit_at}
use Rattle.words.specs.Below.{all_below}
use Rattle.words.specs.Among.{every_listed}

-- n is the number of a card, and the card is in the set
abbrev pub card_in : ℕ → ℕ → Bool
card_in cards n = ltb n 16 && bit_at cards n

-- some card is in the set
unfoldable pub some_card : ℕ → Bool
some_card cards = not (all_below (λ n. not (card_in cards n)) 16)

-- each card of the one set is in the other
unfoldable pub is_within : ℕ → ℕ → Bool
is_within cards others = all_below (λ n. not (card_in cards n) || card_in others n) 16

-- each card in the list is in the set; a number above 15 is no card, and not asked about
abbrev pub cards_within : ℕ → List ℕ → Bool
cards_within set cards = every_listed (λ card. ltb 15 card || card_in set card) cards
