-- What the call on the outcome for a card answers, and what it leaves in the place that it was lent; the state it only reads.
use Rattle.std.specs.Prelude.{ℕ, Bool, cond, ◌&&◌, List, [], ◌∷◌, eqb, length}
use Rattle.words.specs.Parts.{Part, widths_of, total, laid_out}
use Rattle.bus.specs.Refusal.{wrong_length}
use Rattle.outcome.specs.Outcomes.{figures_for}
use Rattle.outcome.specs.declared.figures.Figures.{Figures}
use Rattle.s100_c.specs.Layout.{in_one, is_state, bus_in}

abbrev pub outcome_layout : List (Part Figures)
outcome_layout = in_one (λ f. f.answer) ∷ in_one (λ f. f.card) ∷ in_one (λ f. f.line) ∷ in_one (λ f. f.rival) ∷ []

abbrev pub outcome_size : ℕ
outcome_size = total (widths_of outcome_layout)

abbrev pub outcome_bytes : Figures → List ℕ
outcome_bytes f = laid_out outcome_layout f

abbrev pub outcome_fits : List ℕ → List ℕ → Bool
outcome_fits state place = is_state state && eqb (length place) outcome_size

unfoldable pub outcome_answers : List ℕ → ℕ → List ℕ → ℕ
outcome_answers state card place = cond (outcome_fits state place) (figures_for (bus_in state) card).answer wrong_length

-- of a refused call too
unfoldable pub outcome_leaves : List ℕ → ℕ → List ℕ → List ℕ
outcome_leaves state card place = cond (outcome_fits state place) (outcome_bytes (figures_for (bus_in state) card)) place
