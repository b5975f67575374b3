-- The answer line (01, "The program and one whole run"): its fields one behind the other, each in its digits, and a newline.
use Rattle.std.specs.Prelude.{ℕ, ◌+◌, cond, List, [], ◌∷◌, ◌++◌, leb, length}
use Rattle.std.proofs.lemmas.List.Edits.{sets}
use Rattle.words.specs.Parts.{Part, widths_of, total, laid_out}
use Rattle.events.specs.declared.answers.Answer.{Answer}
use Rattle.text.specs.Digits.{in_digits}
use Rattle.text.specs.Newlines.{newline}

-- how many digits each field has
abbrev pub answer_fields : List (ℕ × (Answer → ℕ))
answer_fields =
    (2, λ a. a.refusal)
    ∷ (2, λ a. a.phase)
    ∷ (2, λ a. a.granted)
    ∷ (2, λ a. a.lines)
    ∷ (2, λ a. a.signals)
    ∷ (2, λ a. a.status)
    ∷ (2, λ a. a.cycles)
    ∷ (4, λ a. a.datum)
    ∷ []

abbrev pub answer_parts : List (Part Answer)
answer_parts = in_digits answer_fields

abbrev pub answer_widths : List ℕ
answer_widths = widths_of answer_parts

abbrev pub answer_digits : Answer → List ℕ
answer_digits a = laid_out answer_parts a

abbrev pub answer_line : Answer → List ℕ
answer_line a = answer_digits a ++ newline ∷ []

-- bytes of an answer line
abbrev pub answer_length : ℕ
answer_length = total answer_widths + 1

-- what a place holds once the line is put at its front: a place that is too short is left alone
abbrev pub printed : Answer → List ℕ → List ℕ
printed a place = cond (leb answer_length (length place)) (sets place 0 (answer_line a)) place

abbrev pub bytes_put : List ℕ → ℕ
bytes_put place = cond (leb answer_length (length place)) answer_length 0
