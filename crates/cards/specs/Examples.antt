-- Small sets of cards.
use Rattle.std.specs.Prelude.{◌≡◌, true, false}
use Rattle.cards.specs.Cards.{card_in, some_card, is_within}

-- 000A is the set of cards 1 and 3
pub record OneAndThree : Type 0 where
  pub three : card_in 0x000A 3 ≡ true
  pub two : card_in 0x000A 2 ≡ false
  -- bit 16 is no card's
  pub sixteen : card_in 0x10000 16 ≡ false
  pub some : some_card 0x000A ≡ true
  -- card 0 alone is somebody
  pub zero_alone : some_card 0x0001 ≡ true
  pub none : some_card 0x0000 ≡ false
  pub within : is_within 0x0008 0x000A ≡ true
  pub not_within : is_within 0x000A 0x0008 ≡ false
