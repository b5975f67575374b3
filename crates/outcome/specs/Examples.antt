-- Small arbitrations: 4, 9 and 10 settled and not, a lone card, and each refusal where those behind it would apply too.
use Rattle.std.specs.Prelude.{◌≡◌, [], ◌∷◌, ◌++◌, replicate}
use Rattle.phases.specs.Phase as Phase
use Rattle.bus.specs.State.{chassis, free_bus, silent, state_of}
use Rattle.bus.specs.Steps.{requested, after_looks_of, acknowledged}
use Rattle.bus.specs.Examples.{eight_bit, contending, four_nine_ten, first, again}
use Rattle.bus.specs.declared.state.Bus.{Bus}
use Rattle.outcome.specs.Outcomes.{figures, figures_for}

-- ---- Cards 4, 9 and 10 of sixteen fitted ones

abbrev pub four_rounds : Bus
four_rounds = after_looks_of four_nine_ten (first ++ again ++ again ++ again)

pub record ThreeContend : Type 0 where
  -- the lines show 10, 1010; 4 is 0100, 9 is 1001
  pub four : figures_for four_rounds 4 ≡ figures 0x00 0x04 0x03 0x0A
  pub nine : figures_for four_rounds 9 ≡ figures 0x00 0x09 0x01 0x0A
  pub ten : figures_for four_rounds 10 ≡ figures 0x00 0x0A 0xFF 0xFF
  pub idle : figures_for four_rounds 11 ≡ figures 0x07 0x0B 0xFF 0xFF
  -- after three rounds the lines show 11, which nobody has
  pub too_soon : figures_for (after_looks_of four_nine_ten (first ++ again ++ again)) 9 ≡ figures 0x08 0x09 0xFF 0xFF
  pub granted : figures_for (acknowledged four_rounds) 9 ≡ figures 0x06 0x09 0xFF 0xFF

-- ---- All sixteen, settled: each drives its number down to the first place where 15 has a 1 and it has none

abbrev pub all_sixteen : Bus
all_sixteen =
    state_of 0xFFFF eight_bit Phase.arbitration 0xFFFF (0 ∷ 0 ∷ 0 ∷ 0 ∷ 0 ∷ 0 ∷ 0 ∷ 0 ∷ 8 ∷ 8 ∷ 8 ∷ 8 ∷ 12 ∷ 12 ∷ 14 ∷ 15 ∷ []) 0xFF

pub record SixteenContend : Type 0 where
  pub card_zero : figures_for all_sixteen 0 ≡ figures 0x00 0x00 0x03 0x0F
  pub seven : figures_for all_sixteen 7 ≡ figures 0x00 0x07 0x03 0x0F
  pub eight : figures_for all_sixteen 8 ≡ figures 0x00 0x08 0x02 0x0F
  pub twelve : figures_for all_sixteen 12 ≡ figures 0x00 0x0C 0x01 0x0F
  pub thirteen : figures_for all_sixteen 13 ≡ figures 0x00 0x0D 0x01 0x0F
  pub fourteen : figures_for all_sixteen 14 ≡ figures 0x00 0x0E 0x00 0x0F
  pub fifteen : figures_for all_sixteen 15 ≡ figures 0x00 0x0F 0xFF 0xFF

-- ---- Cards 3, 5 and 6, none of which drives line 3: the lines show 6, 0110; 3 is 0011, 5 is 0101

abbrev pub low_three : Bus
low_three = after_looks_of (contending 0x0068) (6 ∷ 5 ∷ 3 ∷ [])

pub record LowContend : Type 0 where
  pub three : figures_for low_three 3 ≡ figures 0x00 0x03 0x02 0x06
  pub five : figures_for low_three 5 ≡ figures 0x00 0x05 0x01 0x06
  pub six : figures_for low_three 6 ≡ figures 0x00 0x06 0xFF 0xFF

-- ---- One card alone

pub record AloneWins : Type 0 where
  -- with the lines at 0, and no look taken
  pub card_zero : figures_for (contending 0x0001) 0 ≡ figures 0x00 0x00 0xFF 0xFF
  pub card_one : figures_for (after_looks_of (contending 0x0002) (1 ∷ [])) 1 ≡ figures 0x00 0x01 0xFF 0xFF
  -- its look is still to come
  pub one_too_soon : figures_for (contending 0x0002) 1 ≡ figures 0x08 0x01 0xFF 0xFF

-- ---- The order of the refusals

-- card 1 alone is fitted
abbrev pub one_fitted : Bus
one_fitted = free_bus (chassis 0x0002 eight_bit)

pub record OutcomeRefusals : Type 0 where
  pub senseless : figures_for (state_of 0x0002 (replicate 16 3) Phase.free 0 silent 0xFF) 16 ≡ figures 0x02 0x10 0xFF 0xFF
  pub malformed : figures_for one_fitted 16 ≡ figures 0x03 0x10 0xFF 0xFF
  pub malformed_high : figures_for one_fitted 0xFF ≡ figures 0x03 0xFF 0xFF 0xFF
  pub unfitted : figures_for one_fitted 3 ≡ figures 0x05 0x03 0xFF 0xFF
  -- in arbitration too
  pub unfitted_there : figures_for (requested one_fitted 0x0002) 3 ≡ figures 0x05 0x03 0xFF 0xFF
  -- in another phase, also where the card is granted
  pub elsewhere : figures_for one_fitted 1 ≡ figures 0x06 0x01 0xFF 0xFF
  pub owner : figures_for (state_of 0x0002 eight_bit Phase.owned 0 silent 1) 1 ≡ figures 0x06 0x01 0xFF 0xFF
  -- an idle card, though the lines are unsettled
  pub idle : figures_for (requested (free_bus (chassis 0x0003 eight_bit)) 0x0002) 0 ≡ figures 0x07 0x00 0xFF 0xFF
  pub unsettled : figures_for (requested one_fitted 0x0002) 1 ≡ figures 0x08 0x01 0xFF 0xFF
