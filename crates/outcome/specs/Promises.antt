-- What is promised of the outcome for a card (02, CR 4). The proof of each stands in proofs/ under its name in lower case, with underscores.
use Rattle.std.specs.Prelude.{ℕ, ◌<◌, ◌≤◌, ◌≡◌, ◌↔◌, true, false, List, [], ◌∷◌, get_or}
use Rattle.words.specs.Bits.{bit_at}
use Rattle.words.specs.Among.{is_among}
use Rattle.words.specs.First.{applies_as}
use Rattle.lines.specs.Arbitration.{Contender, Highest}
use Rattle.cards.specs.Cards.{card_in}
use Rattle.bus.specs.Refusal as Refusal
use Rattle.bus.specs.State.{arbitration_of, lines_of, is_settled}
use Rattle.bus.specs.Settle.{list_refusal, settle_of}
use Rattle.bus.specs.Promises.{Sensible}
use Rattle.bus.specs.declared.state.Bus.{Bus}
use Rattle.runs.specs.Run.{call, refusal_on, bus_after}
use Rattle.runs.specs.Promises.{right_acknowledge, Right, Arbitrates}
use Rattle.outcome.specs.Outcomes.{outcome_reasons, loss, outcome_of, figures, figures_for, Wins, Loses}

-- ---- When it is refused

-- The answer's number is n exactly where n is among the six reasons to refuse and no lower number is,
abbrev pub OutcomeByNumber : Type 0
OutcomeByNumber =
    (bus : Bus) (card n : ℕ) → 0 < n
    → ((figures_for bus card).answer ≡ n)
    ↔ ((applies_as n (outcome_reasons bus card) ≡ true) × ((k : ℕ) → k < n → applies_as k (outcome_reasons bus card) ≡ false))

-- what 02 asks for: a sensible state in arbitration with settled lines, and a contender
pub record Asked (bus : Bus) (card : ℕ) : Type 0 where
  pub sense : Sensible bus
  pub number : card ≤ 15
  pub fitted : card_in bus.fitted card ≡ true
  pub phase : bus.phase ≡ 1
  pub contends : card_in bus.contenders card ≡ true
  pub settled : is_settled bus ≡ true

-- and 0 exactly where all that is so.
abbrev pub AnsweredIfAsked : Type 0
AnsweredIfAsked = (bus : Bus) (card : ℕ) → ((figures_for bus card).answer ≡ Refusal.accepted) ↔ Asked bus card

-- each number, in 02's words and order
pub record RefusedFor (bus : Bus) (card : ℕ) : Type 0 where
  pub senseless : ((figures_for bus card).answer ≡ 0x02) ↔ (Sensible bus → ⊥)
  pub no_card : ((figures_for bus card).answer ≡ 0x03) ↔ (Sensible bus × (15 < card))
  pub not_fitted : ((figures_for bus card).answer ≡ 0x05) ↔ (Sensible bus × ((card ≤ 15) × (card_in bus.fitted card ≡ false)))
  pub elsewhere : ((figures_for bus card).answer ≡ 0x06) ↔ (Sensible bus × ((card_in bus.fitted card ≡ true) × (bus.phase ≡ 1 → ⊥)))
  pub idle : ((figures_for bus card).answer ≡ 0x07)
      ↔ (Sensible bus × ((card_in bus.fitted card ≡ true) × ((bus.phase ≡ 1) × (card_in bus.contenders card ≡ false))))
  pub unsettled : ((figures_for bus card).answer ≡ 0x08)
      ↔ (Sensible bus × ((bus.phase ≡ 1) × ((card_in bus.contenders card ≡ true) × (is_settled bus ≡ false))))

-- These six are given exactly so, and no other number but 0 is.
abbrev pub OutcomeRefused : Type 0
OutcomeRefused =
    (bus : Bus) (card : ℕ)
    → RefusedFor bus card × (is_among (figures_for bus card).answer (0x00 ∷ 0x02 ∷ 0x03 ∷ 0x05 ∷ 0x06 ∷ 0x07 ∷ 0x08 ∷ []) ≡ true)

-- The numbers mean what they mean in settle: of state and card a refusal is that of a list with this card alone, and where that is in order, it is
-- that of the empty list, over which no look is taken.
abbrev pub RefusedAsInSettle : Type 0
RefusedAsInSettle =
    (bus : Bus) (card : ℕ)
    → ((list_refusal bus (card ∷ []) ≡ Refusal.accepted → ⊥) → (figures_for bus card).answer ≡ list_refusal bus (card ∷ []))
    × (list_refusal bus (card ∷ []) ≡ Refusal.accepted → (figures_for bus card).answer ≡ (settle_of bus []).answer)

-- Behind a refusal neither a line nor a rival is told.
abbrev pub RefusedTellsNothing : Type 0
RefusedTellsNothing =
    (bus : Bus) (card n : ℕ) → (n ≡ Refusal.accepted → ⊥) → (figures_for bus card).answer ≡ n
    → figures_for bus card ≡ figures n card 0xFF 0xFF

-- ---- Who wins

-- a sensible arbitration whose lines are settled
pub record SettledArbitration (bus : Bus) : Type 0 where
  pub arbitrates : Arbitrates bus
  pub settled : is_settled bus ≡ true

-- an acknowledge with right buffers is accepted next, and grants this card
abbrev pub AcknowledgeGrants : Bus → ℕ → Type 0
AcknowledgeGrants bus card =
    (memory ports : List ℕ) → Right memory ports
    → (refusal_on bus (call right_acknowledge memory ports) ≡ Refusal.accepted)
    × ((bus_after bus (call right_acknowledge memory ports)).granted ≡ card)

-- this card is told that it wins, and nobody else is; it is the highest contender, and an acknowledge grants it
pub record Winner (bus : Bus) (card : ℕ) : Type 0 where
  pub wins : outcome_of bus card ≡ Wins
  pub told : figures_for bus card ≡ figures 0x00 card 0xFF 0xFF
  pub alone : (other : ℕ) → outcome_of bus other ≡ Wins → other ≡ card
  pub highest : Highest (arbitration_of bus) card
  pub granted : AcknowledgeGrants bus card

-- In every such arbitration there is one.
abbrev pub OneWins : Type 0
OneWins = (bus : Bus) → SettledArbitration bus → (card : ℕ) × Winner bus card

-- ---- Why the others lose

-- 02's own words: of the four lines this is the highest at which the card's number has 0 and the lines show 1, and of the contenders
-- that drive it this is the highest-numbered
pub record LosesTo (bus : Bus) (card line rival : ℕ) : Type 0 where
  pub one_of_four : line < 4
  pub has_zero : bit_at card line ≡ false
  pub shown : bit_at (lines_of bus) line ≡ true
  pub none_higher : (k : ℕ) → line < k → k < 4 → bit_at card k ≡ false → bit_at (lines_of bus) k ≡ true → ⊥
  pub contends : Contender (arbitration_of bus) rival
  pub drives : bit_at (get_or bus.driven rival 0) line ≡ true
  pub nobody_higher : (q : ℕ) → Contender (arbitration_of bus) q → bit_at (get_or bus.driven q 0) line ≡ true → q ≤ rival

-- a card's reason for losing: it is told this line and this rival, they are as 02 has them, and no others are
pub record LosesBy (bus : Bus) (card line rival : ℕ) : Type 0 where
  pub loses : outcome_of bus card ≡ Loses (loss line rival)
  pub told : figures_for bus card ≡ figures 0x00 card line rival
  pub reason : LosesTo bus card line rival
  pub only : (otherLine otherRival : ℕ) → LosesTo bus card otherLine otherRival → (otherLine ≡ line) × (otherRival ≡ rival)

-- Each contender that isn't the highest has one.
abbrev pub OthersLose : Type 0
OthersLose =
    (bus : Bus) → SettledArbitration bus → (card : ℕ) → Contender (arbitration_of bus) card → (Highest (arbitration_of bus) card → ⊥)
    → (line : ℕ) × ((rival : ℕ) × LosesBy bus card line rival)

-- what a card learns from its reason: the rival contends, has the higher number, and the same as the card at each higher line; at the line it has
-- 1 where the card has 0, and drives it; an acknowledge is accepted next, and doesn't grant the card
pub record TrueReason (bus : Bus) (card line rival : ℕ) : Type 0 where
  pub one_of_four : line < 4
  pub contends : Contender (arbitration_of bus) rival
  pub outranks : card < rival
  pub agrees : (k : ℕ) → line < k → k < 4 → bit_at rival k ≡ bit_at card k
  pub parts : (bit_at card line ≡ false) × (bit_at rival line ≡ true)
  pub drives : bit_at (get_or bus.driven rival 0) line ≡ true
  pub not_granted : (memory ports : List ℕ) → Right memory ports
      → (refusal_on bus (call right_acknowledge memory ports) ≡ Refusal.accepted)
      × ((bus_after bus (call right_acknowledge memory ports)).granted ≡ card → ⊥)

-- Whoever is told a reason, of whatever state, is told the truth.
abbrev pub ReasonIsTrue : Type 0
ReasonIsTrue = (bus : Bus) (card line rival : ℕ) → outcome_of bus card ≡ Loses (loss line rival) → TrueReason bus card line rival

-- The rival is always the winner: the highest contender, whose number the lines show, and which an acknowledge grants.
abbrev pub RivalIsTheWinner : Type 0
RivalIsTheWinner =
    (bus : Bus) (card line rival : ℕ) → outcome_of bus card ≡ Loses (loss line rival)
    → (lines_of bus ≡ rival) × Winner bus rival
