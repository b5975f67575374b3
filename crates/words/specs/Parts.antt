-- Parts laid one behind the other: the fields of a line of text, or of a buffer.
use Rattle.std.specs.Prelude.{ℕ, ◌+◌, ◌≡◌, List, [], ◌∷◌, ◌++◌, length, get_or, take, drop}
use Rattle.std.proofs.lemmas.List.Edits.{sets}

-- a part of what is laid out of a value: how many bytes it has, and which they are
pub record Part (A : Type 0) : Type 0 where
  pub width : ℕ
  pub bytes : A → List ℕ

abbrev pub widths_of : {A : Type 0} → List (Part A) → List ℕ
widths_of [] = []
widths_of (p ∷ parts) = p.width ∷ widths_of parts

-- how many bytes parts of these widths have together
abbrev pub total : List ℕ → ℕ
total [] = 0
total (width ∷ widths) = width + total widths

abbrev pub parts_of : {A : Type 0} → List (Part A) → A → List (List ℕ)
parts_of [] a = []
parts_of (p ∷ parts) a = p.bytes a ∷ parts_of parts a

-- lists one behind the other
abbrev pub laid : List (List ℕ) → List ℕ
laid [] = []
laid (bytes ∷ more) = bytes ++ laid more

abbrev pub laid_out : {A : Type 0} → List (Part A) → A → List ℕ
laid_out parts a = laid (parts_of parts a)

-- what stands in so many bytes from a place on, and behind them in so many more
abbrev pub cut_from : ℕ → List ℕ → List ℕ → List (List ℕ)
cut_from at [] bytes = []
cut_from at (width ∷ widths) bytes = take width (drop at bytes) ∷ cut_from (at + width) widths bytes

abbrev pub cut : List ℕ → List ℕ → List (List ℕ)
cut widths bytes = cut_from 0 widths bytes

-- where the part of that number begins, counted from 0
abbrev pub place_of : ℕ → List ℕ → ℕ
place_of n widths = total (take n widths)

-- and what stands there
abbrev pub nth_part : ℕ → List ℕ → List ℕ → List ℕ
nth_part n widths bytes = get_or (cut widths bytes) n []

-- what a place holds once each part has been put behind the one before
abbrev pub put_from : {A : Type 0} → List ℕ → ℕ → List (Part A) → A → List ℕ
put_from place at [] a = place
put_from place at (p ∷ parts) a = put_from (sets place at (p.bytes a)) (at + p.width) parts a

-- each part has as many bytes as it says
abbrev pub Sized : {A : Type 0} → List (Part A) → A → Type 0
Sized [] a = Unit
Sized (p ∷ parts) a = (length (p.bytes a) ≡ p.width) × Sized parts a
