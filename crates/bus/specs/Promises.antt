-- What is promised of the bus and its methods (01, "State and phases", "Looking and settling"). The proof of each
-- stands in proofs/ under its name in lower case, with underscores.
use Rattle.std.specs.Prelude.{ℕ, ◌<◌, ◌≤◌, ◌≡◌, ◌↔◌, true, false, length, get_or, take, replicate}
use mathlib.Core.List.{List, [], ◌∷◌, ◌++◌, flatten}
use Rattle.words.specs.First.{applies_as}
use Rattle.lines.specs.Arbitration.{Highest, is_round, after_looks}
use Rattle.phases.specs.Phase as Phase
use Rattle.bus.specs.Refusal as Refusal
use Rattle.cards.specs.Cards.{card_in}
use Rattle.bus.specs.State.{chassis_of, free_bus, nobody, silent, changed, arbitration_of, lines_of, is_settled}
use Rattle.bus.specs.Sense.{makes_sense}
use Rattle.bus.specs.Setup.{empty_bus, setup_of}
use Rattle.bus.specs.Steps.{requested, after_looks_of, acknowledged}
use Rattle.phases.specs.Signal.{HOLD, pHLDA, is_on, signals_in}
use Rattle.bus.specs.Settle.{Settlement, settle_reasons, list_refusal, settle_of}
use Rattle.bus.specs.Step.{step_by}
use Rattle.bus.specs.declared.state.Bus.{Bus}
use Rattle.bus.specs.declared.state.Chassis.{Chassis}
use Rattle.bus.specs.declared.step.Step.{Step}

-- ---- Sense

-- what a state that makes sense is, sentence by sentence, each clause of those parts of the state that it is about:
-- the chassis,
pub record ChassisSensible (chassis : Chassis) : Type 0 where
  pub sixteen_pages : length chassis.pages ≡ 16
  pub codes : (p : ℕ) → p < 16 → get_or chassis.pages p 0 ≤ 2

-- the contenders,
pub record ContentionSensible (fitted phase contenders : ℕ) : Type 0 where
  pub contenders_fitted : (n : ℕ) → card_in contenders n ≡ true → card_in fitted n ≡ true
  pub some_in_arbitration : phase ≡ Phase.arbitration → (n : ℕ) × (card_in contenders n ≡ true)
  pub none_elsewhere : (phase ≡ Phase.arbitration → ⊥) → (n : ℕ) → card_in contenders n ≡ false

-- what they drive,
pub record DrivingSensible (contenders : ℕ) (driven : List ℕ) : Type 0 where
  pub sixteen_levels : length driven ≡ 16
  pub contender_drives : (n : ℕ) → card_in contenders n ≡ true → get_or driven n 0 ≤ 15
  pub idle_drives : (n : ℕ) → n < 16 → card_in contenders n ≡ false → get_or driven n 0 ≡ 0

-- and the granted card
pub record GrantSensible (fitted phase granted : ℕ) : Type 0 where
  pub granted_fitted : Phase.granted ≤ phase → phase ≤ Phase.transfer_two → card_in fitted granted ≡ true
  pub nobody_elsewhere : (Phase.granted ≤ phase → phase ≤ Phase.transfer_two → ⊥) → granted ≡ nobody

pub record Sensible (bus : Bus) : Type 0 where
  pub chassis : ChassisSensible (chassis_of bus)
  pub phase_known : bus.phase ≤ Phase.last
  pub contention : ContentionSensible bus.fitted bus.phase bus.contenders
  pub driving : DrivingSensible bus.contenders bus.driven
  pub grant : GrantSensible bus.fitted bus.phase bus.granted

-- The test says exactly that.
abbrev pub SenseMeans : Type 0
SenseMeans = (bus : Bus) → (makes_sense bus ≡ true) ↔ Sensible bus

-- A state that makes sense still does after any step, and after settle.
abbrev pub SenseKept : Type 0
SenseKept = (step : Step) (bus : Bus) (speaker datum : ℕ) → makes_sense bus ≡ true → makes_sense (step_by step bus speaker datum) ≡ true

abbrev pub SenseKeptBySettle : Type 0
SenseKeptBySettle = (bus : Bus) (cards : List ℕ) → makes_sense bus ≡ true → makes_sense (settle_of bus cards).bus ≡ true

-- The chassis of a bus is its fitted cards and its pages,
abbrev pub ChassisHolds : Type 0
ChassisHolds = (bus : Bus) → ((chassis_of bus).fitted ≡ bus.fitted) × ((chassis_of bus).pages ≡ bus.pages)

-- and no step changes it, of any state, nor does settle.
abbrev pub ChassisKept : Type 0
ChassisKept = (step : Step) (bus : Bus) (speaker datum : ℕ) → chassis_of (step_by step bus speaker datum) ≡ chassis_of bus

abbrev pub ChassisKeptBySettle : Type 0
ChassisKeptBySettle = (bus : Bus) (cards : List ℕ) → chassis_of (settle_of bus cards).bus ≡ chassis_of bus

-- ---- Setup

-- Setup refuses where a page code is above 2, and then answers the bus of an empty chassis;
abbrev pub SetupRefuses : Type 0
SetupRefuses =
    (chassis : Chassis) (p : ℕ) → p < length chassis.pages → 2 < get_or chassis.pages p 0
    → ((setup_of chassis).answer ≡ Refusal.bad_page) × ((setup_of chassis).bus ≡ empty_bus)

-- otherwise it answers a free bus with this chassis;
abbrev pub SetupAccepts : Type 0
SetupAccepts =
    (chassis : Chassis) → ((p : ℕ) → p < length chassis.pages → get_or chassis.pages p 0 ≤ 2)
    → ((setup_of chassis).answer ≡ Refusal.accepted) × ((setup_of chassis).bus ≡ free_bus chassis)

-- which is this, part by part;
pub record BeginsWith (chassis : Chassis) (bus : Bus) : Type 0 where
  pub fitted : bus.fitted ≡ chassis.fitted
  pub pages : bus.pages ≡ chassis.pages
  pub phase : bus.phase ≡ 0
  pub contenders : bus.contenders ≡ 0
  pub driven : bus.driven ≡ replicate 16 0
  pub granted : bus.granted ≡ 0xFF

abbrev pub FreeBusBegins : Type 0
FreeBusBegins = (chassis : Chassis) → BeginsWith chassis (free_bus chassis)

-- and either makes sense.
abbrev pub SetupMakesSense : Type 0
SetupMakesSense = (chassis : Chassis) → length chassis.pages ≡ 16 → makes_sense (setup_of chassis).bus ≡ true

-- ---- Arbitration

-- In arbitration looks change what is driven, as the lines have it, and nothing else;
abbrev pub LooksDrive : Type 0
LooksDrive =
    (bus : Bus) → bus.phase ≡ Phase.arbitration → (looks : List ℕ)
    → after_looks_of bus looks ≡ changed bus bus.phase bus.contenders (after_looks (arbitration_of bus) bus.driven looks) bus.granted

-- in another phase they change nothing.
abbrev pub LooksElsewhere : Type 0
LooksElsewhere = (bus : Bus) → (bus.phase ≡ Phase.arbitration → ⊥) → (looks : List ℕ) → after_looks_of bus looks ≡ bus

-- In arbitration there is one highest contender;
abbrev pub HighestThere : Type 0
HighestThere =
    (bus : Bus) → makes_sense bus ≡ true → bus.phase ≡ Phase.arbitration
    → (m : ℕ) × (Highest (arbitration_of bus) m × ((n : ℕ) → Highest (arbitration_of bus) n → n ≡ m))

-- four rounds, from any levels that make sense, leave the lines settled at its number, and looks after them leave them so;
abbrev pub FourRounds : Type 0
FourRounds =
    (bus : Bus) → makes_sense bus ≡ true → bus.phase ≡ Phase.arbitration → (m : ℕ) → Highest (arbitration_of bus) m
    → (r₁ r₂ r₃ r₄ : List ℕ) → is_round (arbitration_of bus) r₁ ≡ true → is_round (arbitration_of bus) r₂ ≡ true
    → is_round (arbitration_of bus) r₃ ≡ true → is_round (arbitration_of bus) r₄ ≡ true → (further : List ℕ)
    → (lines_of (after_looks_of bus (flatten (r₁ ∷ r₂ ∷ r₃ ∷ r₄ ∷ []) ++ further)) ≡ m)
    × (is_settled (after_looks_of bus (flatten (r₁ ∷ r₂ ∷ r₃ ∷ r₄ ∷ []) ++ further)) ≡ true)

-- for these contenders nothing else that makes sense is settled,
abbrev pub SettledOneWay : Type 0
SettledOneWay =
    (bus other : Bus) → makes_sense bus ≡ true → makes_sense other ≡ true → bus.contenders ≡ other.contenders
    → is_settled bus ≡ true → is_settled other ≡ true → bus.driven ≡ other.driven

-- and settled lines show the highest contender's number.
abbrev pub SettledShowIt : Type 0
SettledShowIt =
    (bus : Bus) → makes_sense bus ≡ true → bus.phase ≡ Phase.arbitration → is_settled bus ≡ true → Highest (arbitration_of bus) (lines_of bus)

-- ---- The grant

-- An acknowledge that changes the phase grants the highest contender, whatever the state was, and ends contention and driving;
abbrev pub GrantsHighest : Type 0
GrantsHighest =
    (bus : Bus) → ((acknowledged bus).phase ≡ bus.phase → ⊥)
    → Highest (arbitration_of bus) (acknowledged bus).granted
    × (acknowledged bus ≡ changed bus Phase.granted 0 silent (acknowledged bus).granted)

-- in arbitration it does so where the lines are settled, and where they aren't it leaves the state as it was.
abbrev pub GrantsSettled : Type 0
GrantsSettled =
    (bus : Bus) → makes_sense bus ≡ true → bus.phase ≡ Phase.arbitration
    → (is_settled bus ≡ true → (acknowledged bus).phase ≡ Phase.granted) × (is_settled bus ≡ false → acknowledged bus ≡ bus)

-- ---- Settle

-- A refusal leaves the state alone and counts no look.
abbrev pub SettleRefusedKeeps : Type 0
SettleRefusedKeeps =
    (bus : Bus) (cards : List ℕ) → ((settle_of bus cards).answer ≡ Refusal.accepted → ⊥)
    → ((settle_of bus cards).bus ≡ bus) × ((settle_of bus cards).looks ≡ 0)

-- what an accepted settle answers: the count is that of leading looks after which the lines are settled, and after no fewer looks were they
pub record SettledBy (bus : Bus) (cards : List ℕ) (settlement : Settlement) : Type 0 where
  pub within : settlement.looks ≤ length cards
  pub reached : settlement.bus ≡ after_looks_of bus (take settlement.looks cards)
  pub still : is_settled settlement.bus ≡ true
  pub least : (n : ℕ) → n < settlement.looks → is_settled (after_looks_of bus (take n cards)) ≡ false

abbrev pub SettleCountsLeast : Type 0
SettleCountsLeast = (bus : Bus) (cards : List ℕ) → (settle_of bus cards).answer ≡ Refusal.accepted → SettledBy bus cards (settle_of bus cards)

-- Its refusal is the lowest number that applies to the state, to anything in the list or to the looks.
abbrev pub SettleByNumber : Type 0
SettleByNumber =
    (bus : Bus) (cards : List ℕ) (n : ℕ) → 0 < n
    → ((settle_of bus cards).answer ≡ n)
    ↔ ((applies_as n (settle_reasons bus cards) ≡ true) × ((k : ℕ) → k < n → applies_as k (settle_reasons bus cards) ≡ false))

-- 01 is for memory and ports, and neither settle nor setup is given any.
abbrev pub NoBuffersThere : Type 0
NoBuffersThere =
    ((bus : Bus) (cards : List ℕ) → (settle_of bus cards).answer ≡ Refusal.wrong_buffers → ⊥)
    × ((chassis : Chassis) → (setup_of chassis).answer ≡ Refusal.wrong_buffers → ⊥)

-- Where the state and the list are in order, unsettled means that the lines are not settled after any beginning of the list.
abbrev pub SettleUnsettled : Type 0
SettleUnsettled =
    (bus : Bus) (cards : List ℕ) → list_refusal bus cards ≡ 0
    → ((settle_of bus cards).answer ≡ Refusal.unsettled) ↔ ((n : ℕ) → n ≤ length cards → is_settled (after_looks_of bus (take n cards)) ≡ false)

-- Four rounds at the beginning of a list are enough for it never to be unsettled.
abbrev pub FourRoundsListed : Type 0
FourRoundsListed =
    (bus : Bus) (r₁ r₂ r₃ r₄ : List ℕ) → is_round (arbitration_of bus) r₁ ≡ true → is_round (arbitration_of bus) r₂ ≡ true
    → is_round (arbitration_of bus) r₃ ≡ true → is_round (arbitration_of bus) r₄ ≡ true → (further : List ℕ)
    → (settle_of bus (flatten (r₁ ∷ r₂ ∷ r₃ ∷ r₄ ∷ []) ++ further)).answer ≡ Refusal.unsettled → ⊥

-- ---- HOLD is not the whole of it

-- In transfer two HOLD is false and pHLDA true, and a request, of whatever cards, changes nothing.
abbrev pub HoldFalseIsNotFree : Type 0
HoldFalseIsNotFree =
    (bus : Bus) → bus.phase ≡ Phase.transfer_two
    → (is_on HOLD (signals_in bus.phase) ≡ false) × (is_on pHLDA (signals_in bus.phase) ≡ true) × ((cards : ℕ) → requested bus cards ≡ bus)
