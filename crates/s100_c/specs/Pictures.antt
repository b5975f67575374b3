-- What the two calls on pictures answer, and what they leave in the places that they were lent.
use Rattle.std.specs.Prelude.{ℕ, Bool, cond, ◌&&◌, List, [], ◌∷◌, eqb, length}
use Rattle.std.proofs.lemmas.List.Edits.{sets}
use Rattle.words.specs.Parts.{Part, widths_of, total, laid_out}
use Rattle.bus.specs.Refusal.{wrong_length}
use Rattle.judgement.specs.Table.{event_of}
use Rattle.pins.specs.Picture.{most_pictured, pictures_of}
use Rattle.pins.specs.ReadAgain.{Seen, picture_in}
use Rattle.s100_c.specs.Layout.{in_one, is_answer, answer_in}

-- ---- Written

-- only kind and address of the event are asked for; the rest is in the answer
abbrev pub pictures_for : ℕ → ℕ → List ℕ → List ℕ
pictures_for kind address answer = pictures_of (event_of kind 0 address 0) (answer_in answer)

abbrev pub picture_fits : List ℕ → List ℕ → Bool
picture_fits answer place = is_answer answer && eqb (length place) most_pictured

-- the bytes written
abbrev pub picture_answers : ℕ → ℕ → List ℕ → List ℕ → ℕ
picture_answers kind address answer place = cond (picture_fits answer place) (length (pictures_for kind address answer)) wrong_length

abbrev pub picture_leaves : ℕ → ℕ → List ℕ → List ℕ → List ℕ
picture_leaves kind address answer place = cond (picture_fits answer place) (sets place 0 (pictures_for kind address answer)) place

-- ---- Read again

abbrev pub seen_layout : List (Part Seen)
seen_layout = in_one (λ s. s.phase) ∷ in_one (λ s. s.signals) ∷ in_one (λ s. s.lines) ∷ in_one (λ s. s.column) ∷ []

abbrev pub seen_size : ℕ
seen_size = total (widths_of seen_layout)

abbrev pub seen_bytes : Seen → List ℕ
seen_bytes s = laid_out seen_layout s

abbrev pub is_seen : List ℕ → Bool
is_seen place = eqb (length place) seen_size

abbrev pub read_answers : List ℕ → List ℕ → ℕ
read_answers line place = cond (is_seen place) (picture_in line).refusal wrong_length

-- of a refused line too, so that no column of an earlier line stays
abbrev pub read_leaves : List ℕ → List ℕ → List ℕ
read_leaves line place = cond (is_seen place) (seen_bytes (picture_in line)) place
