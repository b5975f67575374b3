-- The outcome line (02, CR 4): what is told of a card, each number in two digits, and a newline; and the lines of the sixteen cards.
use Rattle.std.specs.Prelude.{ℕ, zero, suc, ◌+◌, ◌*◌, cond, List, [], ◌∷◌, ◌++◌, leb, length}
use Rattle.std.proofs.lemmas.List.Edits.{sets}
use Rattle.words.specs.Parts.{Part, widths_of, total, laid_out}
use Rattle.bus.specs.declared.state.Bus.{Bus}
use Rattle.outcome.specs.Outcomes.{figures_for}
use Rattle.outcome.specs.declared.figures.Figures.{Figures}
use Rattle.text.specs.Digits.{in_digits}
use Rattle.text.specs.Newlines.{newline}

-- how many digits each number has
abbrev pub outcome_fields : List (ℕ × (Figures → ℕ))
outcome_fields = (2, λ f. f.answer) ∷ (2, λ f. f.card) ∷ (2, λ f. f.line) ∷ (2, λ f. f.rival) ∷ []

abbrev pub outcome_parts : List (Part Figures)
outcome_parts = in_digits outcome_fields

abbrev pub outcome_digits : Figures → List ℕ
outcome_digits f = laid_out outcome_parts f

abbrev pub outcome_line : Figures → List ℕ
outcome_line f = outcome_digits f ++ newline ∷ []

-- bytes of an outcome line
abbrev pub outcome_length : ℕ
outcome_length = total (widths_of outcome_parts) + 1

-- ---- The sixteen

-- the lines of the cards below a number, card 0's first
unfoldable pub outcomes_below : Bus → ℕ → List ℕ
outcomes_below bus zero = []
outcomes_below bus (suc card) = outcomes_below bus card ++ outcome_line (figures_for bus card)

abbrev pub outcome_lines : Bus → List ℕ
outcome_lines bus = outcomes_below bus 16

abbrev pub outcomes_length : ℕ
outcomes_length = 16 * outcome_length

-- what a place holds once the lines are put at its front: a place that is too short is left alone
abbrev pub outcomes_put : Bus → List ℕ → List ℕ
outcomes_put bus place = cond (leb outcomes_length (length place)) (sets place 0 (outcome_lines bus)) place

abbrev pub outcome_bytes_put : List ℕ → ℕ
outcome_bytes_put place = cond (leb outcomes_length (length place)) outcomes_length 0
