-- Who drives which group of lines (000, 2.8.2.3; 01, "State and phases").
use Rattle.std.specs.Prelude.{ℕ, List, [], ◌∷◌, get_or}
use Rattle.words.specs.Among.{beside}
use Rattle.phases.specs.Phase as Phase

-- ---- The four groups of lines

abbrev pub address : ℕ
address = 0

abbrev pub status_lines : ℕ
status_lines = 1

abbrev pub data_out : ℕ
data_out = 2

abbrev pub control : ℕ
control = 3

-- ---- The codes for who drives a group

abbrev pub no_driver : ℕ
no_driver = 0

abbrev pub permanent : ℕ
permanent = 1

abbrev pub card : ℕ
card = 2

abbrev pub both : ℕ
both = 3

-- ---- The table: who drives address, status, data-out and control

abbrev pub all_permanent : List ℕ
all_permanent = permanent ∷ permanent ∷ permanent ∷ permanent ∷ []

abbrev pub changing_hands : List ℕ
changing_hands = no_driver ∷ no_driver ∷ no_driver ∷ both ∷ []

abbrev pub all_card : List ℕ
all_card = card ∷ card ∷ card ∷ card ∷ []

-- nobody drives in a phase that there is not
unfoldable pub drivers_in : ℕ → List ℕ
drivers_in phase =
    beside phase (
    (Phase.free, all_permanent) ∷ (Phase.arbitration, all_permanent) ∷ (Phase.granted, all_permanent)
    ∷ (Phase.transfer_one, changing_hands) ∷ (Phase.owned, all_card) ∷ (Phase.transfer_two, changing_hands) ∷ []
    ) []

-- and nobody a group that there is not
abbrev pub driver_of : ℕ → ℕ → ℕ
driver_of phase group = get_or (drivers_in phase) group no_driver
