-- A text read line by line, the rest of it handed on (01, "The program and one whole run"), whatever the lines mean.
use Rattle.std.specs.Prelude.{ℕ, zero, suc, ◌+◌, ◌-◌, Bool, cond, ◌&&◌, List, [], ◌∷◌, ◌++◌, leb, length, take}
use Rattle.text.specs.Newlines.{has_newline, first_line, rest_of}
use Rattle.text.specs.Frames.{longest}

-- what lines mean: what is said to a line in some state, the state that the line turns it to, what is said behind the last line, and the most
-- bytes that are said at once, to a line or behind the last
pub record Reader (S : Type 0) : Type 0 where
  pub says : S → List ℕ → List ℕ
  pub turns : S → List ℕ → S
  pub closes : S → List ℕ
  pub most : ℕ

-- everything that is said to lines one after another, and behind them
unfoldable pub answers_to : {S : Type 0} → Reader S → S → List (List ℕ) → List ℕ
answers_to r s [] = r.closes s
answers_to r s (line ∷ lines) = r.says s line ++ answers_to r (r.turns s line) lines

-- ---- Lines taken off a text

-- some lines taken off a text: the state after them, what was said, how many bytes they had, and what follows them
pub record Taken (S : Type 0) : Type 0 where
  pub state : S
  pub said : List ℕ
  pub used : ℕ
  pub rest : List ℕ

abbrev pub nothing_taken : {S : Type 0} → S → List ℕ → Taken S
nothing_taken s text = record { state = s; said = []; used = 0; rest = text }

-- the first line, with its newline
abbrev pub line_off : {S : Type 0} → Reader S → S → List ℕ → Taken S
line_off r s text = record {
  state = r.turns s (first_line text);
  said = r.says s (first_line text);
  used = suc (length (first_line text));
  rest = rest_of text;
}

-- that line, where it has ended
abbrev pub first_taken : {S : Type 0} → Reader S → S → List ℕ → Taken S
first_taken r s text = cond (has_newline text) (line_off r s text) (nothing_taken s text)

-- lines, and then those that were taken off what follows them
abbrev pub and_then : {S : Type 0} → Taken S → Taken S → Taken S
and_then t later =
    record { state = later.state; said = t.said ++ later.said; used = t.used + later.used; rest = later.rest }

-- a line is taken where it has ended, and the most bytes have room
abbrev pub takes_line : {S : Type 0} → Reader S → ℕ → List ℕ → Bool
takes_line r room text = has_newline text && leb r.most room

-- So many lines at most; what is said to one leaves less room for the next, and what follows it is the text of the next.
unfoldable pub taken_within : {S : Type 0} → Reader S → ℕ → ℕ → S → List ℕ → Taken S
taken_within r zero room s text = nothing_taken s text
taken_within r (suc n) room s text =
    cond (takes_line r room text)
    (and_then (line_off r s text) (taken_within r n (room - length (r.says s (first_line text))) (r.turns s (first_line text)) (rest_of text)))
    (nothing_taken s text)

-- all that are taken with room for so many bytes: no text has more lines than bytes
abbrev pub taken_off : {S : Type 0} → Reader S → ℕ → S → List ℕ → Taken S
taken_off r room s text = taken_within r (length text) room s text

-- ---- What is held

-- the most bytes that are held of a line that isn't ended: one more than any right line has
abbrev pub most_held : ℕ
most_held = suc longest

-- What is held of a rest until more is read.
abbrev pub held_of : List ℕ → List ℕ
held_of rest = cond (has_newline rest) rest (take most_held rest)
