-- The outcome of an arbitration for one card: a refusal, that the card wins, or where it loses and to whom; and its numbers (02, CR 4).
use Rattle.std.specs.Prelude.{ℕ, cond, not, ◌&&◌, List, [], ◌∷◌, eqb, leb, ltb}
use Rattle.words.specs.First.{Reason, reason, first_of}
use Rattle.cards.specs.Cards.{card_in}
use Rattle.bus.specs.Refusal as Refusal
use Rattle.bus.specs.State.{nobody, lines_of, is_settled}
use Rattle.bus.specs.Sense.{is_senseless}
use Rattle.bus.specs.Settle.{is_elsewhere}
use Rattle.bus.specs.declared.state.Bus.{Bus}
use Rattle.outcome.specs.Losing.{no_line, line_lost, rival_at}
use Rattle.outcome.specs.declared.figures.Figures.{Figures}
use Rattle.outcome.specs.declared.figures.Loss.{Loss}

-- ---- The refusals, the lowest number first

abbrev pub outcome_reasons : Bus → ℕ → List Reason
outcome_reasons bus card =
    reason Refusal.senseless (is_senseless bus)
    ∷ reason Refusal.malformed (ltb 15 card)
    ∷ reason Refusal.not_fitted (leb card 15 && not (card_in bus.fitted card))
    ∷ reason Refusal.wrong_phase (is_elsewhere bus)
    ∷ reason Refusal.not_its_turn (not (card_in bus.contenders card))
    ∷ reason Refusal.unsettled (not (is_settled bus))
    ∷ []

unfoldable pub outcome_refusal : Bus → ℕ → ℕ
outcome_refusal bus card = first_of (outcome_reasons bus card)

-- ---- The outcome

pub data Outcome : Type 0 where
  -- by the number of the refusal
  Refused : ℕ → Outcome
  Wins : Outcome
  Loses : Loss → Outcome

abbrev pub loss : ℕ → ℕ → Loss
loss line rival = record { line = line; rival = rival }

-- the card loses at this line, or wins where there is none
abbrev pub decided_at : Bus → ℕ → Outcome
decided_at bus line = cond (eqb line no_line) Wins (Loses (loss line (rival_at bus line)))

unfoldable pub settled_outcome : Bus → ℕ → Outcome
settled_outcome bus card = decided_at bus (line_lost card (lines_of bus))

unfoldable pub outcome_of : Bus → ℕ → Outcome
outcome_of bus card =
    cond (eqb (outcome_refusal bus card) Refusal.accepted) (settled_outcome bus card) (Refused (outcome_refusal bus card))

-- ---- Its numbers

abbrev pub figures : ℕ → ℕ → ℕ → ℕ → Figures
figures answer card line rival = record { answer = answer; card = card; line = line; rival = rival }

-- each case, told of a card: the answer's number, the card, the line and the rival
abbrev pub figures_of : ℕ → Outcome → Figures
figures_of card (Refused refusal) = figures refusal card no_line nobody
figures_of card Wins = figures Refusal.accepted card no_line nobody
figures_of card (Loses lost) = figures Refusal.accepted card lost.line lost.rival

-- what is told of a card
abbrev pub figures_for : Bus → ℕ → Figures
figures_for bus card = figures_of card (outcome_of bus card)
