-- What is promised of digits, lines and frames. The proof of each stands in proofs/ under its name in lower case, with underscores.
use Rattle.std.specs.Prelude.{ℕ, ◌+◌, ◌-◌, ◌*◌, ◌^◌, ◌<◌, ◌≤◌, ◌≡◌, ◌⊎◌, ◌↔◌, true, false, List, [], ◌∷◌, ◌++◌, map, length, get_or, take, drop}
use Rattle.bus.specs.Refusal.{accepted}
use Rattle.bus.specs.declared.state.Bus.{Bus}
use Rattle.bus.specs.declared.state.Chassis.{Chassis}
use Rattle.judgement.specs.declared.event.Event.{Event}
use Rattle.events.specs.declared.answers.Answer.{Answer}
use Rattle.outcome.specs.Outcomes.{figures, figures_for}
use Rattle.outcome.specs.declared.figures.Figures.{Figures}
use Rattle.text.specs.Digits.{is_digit, value_of, digit_of, number_of, digits_of, is_digits}
use Rattle.text.specs.Faults.{fault, fault_of}
use Rattle.text.specs.Newlines.{newline, has_newline, first_line, rest_of, last_line, text_lines}
use Rattle.text.specs.Frames.{digits_from, event_digits, event_in, next_line, line_number, line_column, line_bytes, setup_in, longest}
use Rattle.text.specs.AnswerLine.{answer_digits, answer_line, answer_length, printed}
use Rattle.text.specs.OutcomeLine.{outcome_line, outcome_lines, outcomes_put}
use Rattle.text.specs.Reading.{Reader, answers_to, taken_within, taken_off, held_of}
use Rattle.text.specs.Chunks.{begun_in, fed_all, whole_text}

-- ---- What is wrong with a line

-- the byte in a column, counted from 1, is no digit, and each byte before it is one
pub record FirstWrong (line : List ℕ) (column : ℕ) : Type 0 where
  pub counted : 1 ≤ column
  pub within : column ≤ length line
  pub wrong : is_digit (get_or line (column - 1) 0) ≡ false
  pub before : (k : ℕ) → k < column - 1 → is_digit (get_or line k 0) ≡ true

-- what is told of a line that is to have so many digits
pub record FaultTold (count : ℕ) (line : List ℕ) : Type 0 where
  -- it is right exactly if it has so many bytes, and each is a digit;
  pub right : ((fault_of count line).refusal ≡ 0x00) ↔ ((length line ≡ count) × ((k : ℕ) → k < count → is_digit (get_or line k 0) ≡ true))
  -- 0C exactly if its length is wrong, whatever its bytes are;
  pub wrong_line_length : ((fault_of count line).refusal ≡ 0x0C) ↔ (length line ≡ count → ⊥)
  -- 0D exactly if it has so many bytes and a first wrong one, and then that one's column is told;
  pub wrong_character : (column : ℕ) → (fault_of count line ≡ fault 0x0D column) ↔ ((length line ≡ count) × FirstWrong line column)
  -- nothing else, and no column with another number.
  pub number : ((fault_of count line).refusal ≡ 0x00) ⊎ (((fault_of count line).refusal ≡ 0x0C) ⊎ ((fault_of count line).refusal ≡ 0x0D))
  pub no_column : ((fault_of count line).refusal ≡ 0x0D → ⊥) → (fault_of count line).column ≡ 0

abbrev pub FaultsTold : Type 0
FaultsTold = (count : ℕ) (line : List ℕ) → FaultTold count line

-- ---- What a text begins with

-- A line that is ended has the number and column of a line that is to have fourteen digits, and is taken off with its newline; one that isn't
-- ended stays.
abbrev pub LinesTold : Type 0
LinesTold =
    (text : List ℕ)
    → (has_newline text ≡ true
    → (fault (line_number (next_line text)) (line_column (next_line text)) ≡ fault_of 14 (first_line text))
    × (line_bytes (next_line text) ≡ length (first_line text) + 1))
    × (has_newline text ≡ false → line_bytes (next_line text) ≡ 0)

-- ---- What is written reads back

-- A digit is written for each number below 16 and reads back, and there are no other digits.
abbrev pub DigitsReadBack : Type 0
DigitsReadBack =
    ((n : ℕ) → n < 16 → (is_digit (digit_of n) ≡ true) × (value_of (digit_of n) ≡ n))
    × ((b : ℕ) → is_digit b ≡ true → (value_of b < 16) × (digit_of (value_of b) ≡ b))

-- A number in enough digits: so many bytes, all digits, and the number again.
abbrev pub NumbersReadBack : Type 0
NumbersReadBack =
    (count n : ℕ) → n < 16 ^ count → (is_digits count (digits_of count n) ≡ true) × (number_of (digits_of count n) ≡ n)

-- an event as it is written
abbrev pub event_line : Event → List ℕ
event_line event = digits_of 2 event.kind ++ digits_of 2 event.speaker ++ digits_of 6 event.address ++ digits_of 4 event.datum

-- what fits its field on an event line
pub record EventFits (event : Event) : Type 0 where
  pub kind : event.kind < 16 ^ 2
  pub speaker : event.speaker < 16 ^ 2
  pub address : event.address < 16 ^ 6
  pub datum : event.datum < 16 ^ 4

abbrev pub EventReadsBack : Type 0
EventReadsBack = (event : Event) → EventFits event → (is_digits event_digits (event_line event) ≡ true) × (event_in (event_line event) ≡ event)

-- a setup line as it is written
abbrev pub setup_line : Chassis → List ℕ
setup_line given = digits_of 4 given.fitted ++ map digit_of given.pages

-- what fits its field on a setup line
pub record ChassisWritten (given : Chassis) : Type 0 where
  pub fitted : given.fitted < 16 ^ 4
  pub sixteen : length given.pages ≡ 16
  pub pages : (p : ℕ) → p < length given.pages → get_or given.pages p 0 < 16

abbrev pub SetupReadsBack : Type 0
SetupReadsBack = (given : Chassis) → ChassisWritten given → setup_in (setup_line given) ≡ record { fault = fault accepted 0; chassis = given }

-- an answer line read again
abbrev pub answer_on_line : List ℕ → Answer
answer_on_line line = record {
  refusal = number_of (digits_from 0 2 line);
  phase = number_of (digits_from 2 2 line);
  granted = number_of (digits_from 4 2 line);
  lines = number_of (digits_from 6 2 line);
  signals = number_of (digits_from 8 2 line);
  status = number_of (digits_from 10 2 line);
  cycles = number_of (digits_from 12 2 line);
  datum = number_of (digits_from 14 4 line);
}

-- what fits its field on an answer line
pub record AnswerFits (a : Answer) : Type 0 where
  pub refusal : a.refusal < 16 ^ 2
  pub phase : a.phase < 16 ^ 2
  pub granted : a.granted < 16 ^ 2
  pub lines : a.lines < 16 ^ 2
  pub signals : a.signals < 16 ^ 2
  pub status : a.status < 16 ^ 2
  pub cycles : a.cycles < 16 ^ 2
  pub datum : a.datum < 16 ^ 4

-- Eighteen digits and a newline, and every field again.
abbrev pub AnswerReadsBack : Type 0
AnswerReadsBack =
    (a : Answer)
    → ((is_digits 18 (answer_digits a) ≡ true) × (length (answer_line a) ≡ answer_length)) × (AnswerFits a → answer_on_line (answer_line a) ≡ a)

-- What is lent to be written to holds the line in its first nineteen bytes, whatever stood there, and behind them every byte as it was. One with
-- fewer bytes is left alone.
abbrev pub OnlyLineWritten : Type 0
OnlyLineWritten =
    (a : Answer) (place : List ℕ)
    → (19 ≤ length place → (take 19 (printed a place) ≡ answer_line a) × (drop 19 (printed a place) ≡ drop 19 place))
    × (length place < 19 → printed a place ≡ place)

-- ---- The outcome line (02, CR 4)

-- an outcome line read again
abbrev pub outcome_on_line : List ℕ → Figures
outcome_on_line line =
    figures (number_of (digits_from 0 2 line)) (number_of (digits_from 2 2 line)) (number_of (digits_from 4 2 line)) (number_of (digits_from 6 2 line))

-- what fits its field on an outcome line
pub record FiguresFit (f : Figures) : Type 0 where
  pub answer : f.answer < 16 ^ 2
  pub card : f.card < 16 ^ 2
  pub line : f.line < 16 ^ 2
  pub rival : f.rival < 16 ^ 2

-- Eight digits and a newline: answer, card, line and rival.
abbrev pub OutcomeReadsBack : Type 0
OutcomeReadsBack =
    (f : Figures)
    → ((is_digits 8 (take 8 (outcome_line f)) ≡ true) × (drop 8 (outcome_line f) ≡ 0x0A ∷ [])) × (FiguresFit f → outcome_on_line (outcome_line f) ≡ f)

-- The sixteen lines are 144 bytes, and behind the ninth byte of each stands the next: card n's is the n-th, counted from 0.
abbrev pub OutcomesInOrder : Type 0
OutcomesInOrder =
    (bus : Bus)
    → (length (outcome_lines bus) ≡ 144)
    × ((card : ℕ) → card < 16 → take 9 (drop (card * 9) (outcome_lines bus)) ≡ outcome_line (figures_for bus card))

-- What is lent to be written to holds them in its first 144 bytes, whatever stood there, and behind them every byte as it was. One with fewer
-- bytes is left alone.
abbrev pub OnlyOutcomesWritten : Type 0
OnlyOutcomesWritten =
    (bus : Bus) (place : List ℕ)
    → (144 ≤ length place → (take 144 (outcomes_put bus place) ≡ outcome_lines bus) × (drop 144 (outcomes_put bus place) ≡ drop 144 place))
    × (length place < 144 → outcomes_put bus place ≡ place)

-- ---- Lines

-- A newline ends a line; what follows are the lines of the rest.
abbrev pub LineEnded : Type 0
LineEnded = (line text : List ℕ) → has_newline line ≡ false → text_lines (line ++ newline ∷ text) ≡ line ∷ text_lines text

-- Where no newline follows, the end of the text ends a line, if it has any byte.
abbrev pub LineUnended : Type 0
LineUnended = (line : List ℕ) → has_newline line ≡ false → text_lines line ≡ last_line line

-- A text with a newline is its first line, which has none, the newline, and the rest.
abbrev pub SplitsAtNewline : Type 0
SplitsAtNewline =
    (text : List ℕ) → has_newline text ≡ true → (text ≡ first_line text ++ newline ∷ rest_of text) × (has_newline (first_line text) ≡ false)

-- However long an unended line is, no more is held of it than one byte above the longest right line.
abbrev pub HeldIsShort : Type 0
HeldIsShort = (rest : List ℕ) → has_newline rest ≡ false → length (held_of rest) ≤ 1 + longest

-- ---- Reading in pieces: of any state, whatever a line says in it and turns it to

-- What was said of the lines taken, with what the rest will say, is the whole, also where more text comes: for any number of lines and any room.
abbrev pub TakenIsTheWhole : Type 1
TakenIsTheWhole =
    (S : Type 0) (r : Reader S) (n room : ℕ) (s : S) (text more : List ℕ)
    → answers_to r s (text_lines (text ++ more))
    ≡ (taken_within r n room s text).said
    ++ answers_to r (taken_within r n room s text).state (text_lines ((taken_within r n room s text).rest ++ more))

-- Where no line is said more than the most bytes, what is said has room, and no line that has ended is left while another would have room.
abbrev pub TakenFits : Type 1
TakenFits =
    (S : Type 0) (r : Reader S) → ((s : S) (line : List ℕ) → length (r.says s line) ≤ r.most) → (room : ℕ) (s : S) (text : List ℕ)
    → (length (taken_off r room s text).said ≤ room)
    × (r.most ≤ room - length (taken_off r room s text).said → has_newline (taken_off r room s text).rest ≡ false)

-- a line goes by its first bytes alone, one more than the longest right line has
abbrev pub GoesByFront : {S : Type 0} → Reader S → Type 0
GoesByFront {S} r =
    (s : S) (line : List ℕ) → (r.says s (take (1 + longest) line) ≡ r.says s line) × (r.turns s (take (1 + longest) line) ≡ r.turns s line)

-- Where that is so, what is held says the same as the rest,
abbrev pub HeldIsEnough : Type 1
HeldIsEnough =
    (S : Type 0) (r : Reader S) → GoesByFront r
    → (s : S) (rest more : List ℕ) → answers_to r s (text_lines (held_of rest ++ more)) ≡ answers_to r s (text_lines (rest ++ more))

-- and however a text is cut into chunks, and whatever room each call has: what was said, with what the held text will say, is what the text says.
abbrev pub ChunksSayTheSame : Type 1
ChunksSayTheSame =
    (S : Type 0) (r : Reader S) → GoesByFront r → (s : S) (calls : List (ℕ × List ℕ))
    → (fed_all r (begun_in s) calls).said
    ++ answers_to r (fed_all r (begun_in s) calls).state (text_lines (fed_all r (begun_in s) calls).held)
    ≡ answers_to r s (text_lines (whole_text calls))
