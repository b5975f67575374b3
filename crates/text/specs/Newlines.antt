-- The lines of a text: a newline ends each, and the end of the text the last (01, "The program and one whole run").
use Rattle.std.specs.Prelude.{ℕ, Bool, false, cond, ◌||◌, List, [], ◌∷◌, ◌++◌, eqb}

-- the one byte that ends a line
abbrev pub newline : ℕ
newline = 0x0A

unfoldable pub has_newline : List ℕ → Bool
has_newline [] = false
has_newline (b ∷ text) = eqb b newline || has_newline text

-- what stands before the first newline
unfoldable pub first_line : List ℕ → List ℕ
first_line [] = []
first_line (b ∷ text) = cond (eqb b newline) [] (b ∷ first_line text)

-- what stands after it
unfoldable pub rest_of : List ℕ → List ℕ
rest_of [] = []
rest_of (b ∷ text) = cond (eqb b newline) text (rest_of text)

-- what the end of the text ends: a line, unless no byte is left
unfoldable pub last_line : List ℕ → List (List ℕ)
last_line [] = []
last_line (b ∷ held) = (b ∷ held) ∷ []

-- the lines of a text that goes on a line begun before it
unfoldable pub lines_after : List ℕ → List ℕ → List (List ℕ)
lines_after held [] = last_line held
lines_after held (b ∷ text) = cond (eqb b newline) (held ∷ lines_after [] text) (lines_after (held ++ b ∷ []) text)

abbrev pub text_lines : List ℕ → List (List ℕ)
text_lines text = lines_after [] text
