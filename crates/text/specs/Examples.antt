-- Lines and frames written out: 01's own, and those that are nearly right.
use Rattle.std.specs.Prelude.{ℕ, suc, ◌+◌, ◌-◌, ◌≡◌, true, false, List, [], ◌∷◌, ◌++◌, take, drop, replicate}
use Rattle.bus.specs.State.{chassis}
use Rattle.judgement.specs.Table.{event_of}
use Rattle.events.specs.declared.answers.Answer.{Answer}
use Rattle.outcome.specs.Outcomes.{figures}
use Rattle.text.specs.Digits.{is_digit, value_of, digit_of, is_digits}
use Rattle.text.specs.Faults.{fault, fault_of}
use Rattle.text.specs.Newlines.{newline, text_lines}
use Rattle.text.specs.Frames.{BadLine, Line, event_in, setup_in, longest, next_line}
use Rattle.text.specs.AnswerLine.{answer_line, answer_length, printed, bytes_put}
use Rattle.text.specs.OutcomeLine.{outcome_line, outcome_length, outcome_bytes_put}
use Rattle.text.specs.Reading.{Reader, answers_to, first_taken, taken_off, held_of}

-- ---- Digits, and the bytes beside them

pub record DigitsAndNeighbours : Type 0 where
  pub below_zero : is_digit 0x2F ≡ false
  pub zero_to_nine : (is_digit 0x30 ≡ true) × (is_digit 0x39 ≡ true)
  pub above_nine : (is_digit 0x3A ≡ false) × (is_digit 0x40 ≡ false)
  pub a_to_f : (is_digit 0x41 ≡ true) × (is_digit 0x46 ≡ true)
  pub above_f : is_digit 0x47 ≡ false
  pub lower_case : (is_digit 0x61 ≡ false) × (is_digit 0x66 ≡ false)
  pub others : (is_digit 0x00 ≡ false) × ((is_digit 0x0D ≡ false) × ((is_digit 0x20 ≡ false) × (is_digit 0xFF ≡ false)))
  pub values : (value_of 0x30 ≡ 0) × ((value_of 0x39 ≡ 9) × ((value_of 0x41 ≡ 10) × (value_of 0x46 ≡ 15)))
  pub written : (digit_of 0 ≡ 0x30) × ((digit_of 9 ≡ 0x39) × ((digit_of 10 ≡ 0x41) × (digit_of 15 ≡ 0x46)))

-- ---- An event line, 0A030010001234, and a setup line, 000A1200000000000000 (01's printed run)

abbrev pub word_write : List ℕ
word_write = 0x30 ∷ 0x41 ∷ 0x30 ∷ 0x33 ∷ 0x30 ∷ 0x30 ∷ 0x31 ∷ 0x30 ∷ 0x30 ∷ 0x30 ∷ 0x31 ∷ 0x32 ∷ 0x33 ∷ 0x34 ∷ []

-- a digit short, a digit long, and with a lower-case letter
abbrev pub thirteen : List ℕ
thirteen = 0x30 ∷ 0x41 ∷ 0x30 ∷ 0x33 ∷ 0x30 ∷ 0x30 ∷ 0x31 ∷ 0x30 ∷ 0x30 ∷ 0x30 ∷ 0x31 ∷ 0x32 ∷ 0x33 ∷ []

abbrev pub fifteen : List ℕ
fifteen = 0x30 ∷ 0x41 ∷ 0x30 ∷ 0x33 ∷ 0x30 ∷ 0x30 ∷ 0x31 ∷ 0x30 ∷ 0x30 ∷ 0x30 ∷ 0x31 ∷ 0x32 ∷ 0x33 ∷ 0x34 ∷ 0x30 ∷ []

abbrev pub lower_a : List ℕ
lower_a = 0x30 ∷ 0x61 ∷ 0x30 ∷ 0x33 ∷ 0x30 ∷ 0x30 ∷ 0x31 ∷ 0x30 ∷ 0x30 ∷ 0x30 ∷ 0x31 ∷ 0x32 ∷ 0x33 ∷ 0x34 ∷ []

abbrev pub bad : ℕ → ℕ → ℕ → BadLine
bad size refusal column = record { size = size; fault = fault refusal column }

pub record EventLines : Type 0 where
  pub right : is_digits 14 word_write ≡ true
  pub event : event_in word_write ≡ event_of 0x0A 0x03 0x001000 0x1234
  pub short : is_digits 14 thirteen ≡ false
  pub long : is_digits 14 fifteen ≡ false
  pub lower : is_digits 14 lower_a ≡ false
  -- what a text begins with
  pub frame : next_line (word_write ++ newline ∷ 0x30 ∷ []) ≡ Line.Frame (event_of 0x0A 0x03 0x001000 0x1234)
  pub unended : next_line word_write ≡ Line.Unended
  pub too_short : next_line (thirteen ++ newline ∷ []) ≡ Line.Bad (bad 13 0x0C 0)
  pub too_long : next_line (fifteen ++ newline ∷ []) ≡ Line.Bad (bad 15 0x0C 0)
  pub misspelt : next_line (lower_a ++ newline ∷ []) ≡ Line.Bad (bad 14 0x0D 2)
  pub empty : next_line (newline ∷ word_write) ≡ Line.Bad (bad 0 0x0C 0)
  -- a newline stands behind fourteen bytes, but an earlier one ends the line
  pub cut : next_line (take 3 word_write ++ newline ∷ drop 4 word_write ++ newline ∷ []) ≡ Line.Bad (bad 3 0x0C 0)

abbrev pub setup : List ℕ
setup = 0x30 ∷ 0x30 ∷ 0x30 ∷ 0x41 ∷ 0x31 ∷ 0x32 ∷ 0x30 ∷ 0x30 ∷ 0x30 ∷ 0x30 ∷ 0x30 ∷ 0x30 ∷ 0x30 ∷ 0x30 ∷ 0x30 ∷ 0x30 ∷ 0x30 ∷ 0x30 ∷ 0x30 ∷ 0x30 ∷ []

pub record SetupLines : Type 0 where
  pub right : setup_in setup ≡ record { fault = fault 0x00 0; chassis = chassis 0x000A (1 ∷ 2 ∷ replicate 14 0) }
  pub an_event : setup_in word_write ≡ record { fault = fault 0x0C 0; chassis = chassis 0 (replicate 16 0) }
  pub too_long : setup_in (setup ++ 0x30 ∷ []) ≡ record { fault = fault 0x0C 0; chassis = chassis 0 (replicate 16 0) }
  -- a page code 3, and behind it a space in the last column
  pub misspelt : setup_in (take 4 setup ++ 0x33 ∷ drop 5 (take 19 setup) ++ 0x20 ∷ []) ≡ record { fault = fault 0x0D 20; chassis = chassis 0 (replicate 16 0) }

-- ---- What is wrong with a line

-- the word write with another byte in a column, counted from 1
abbrev pub with_byte_in : ℕ → ℕ → List ℕ
with_byte_in column b = take (column - 1) word_write ++ b ∷ drop column word_write

pub record WrongLines : Type 0 where
  pub nothing : fault_of 14 word_write ≡ fault 0x00 0
  -- a wrong length, whatever the bytes: the carriage return of a line that ends in one is its fifteenth byte
  pub too_short : fault_of 14 thirteen ≡ fault 0x0C 0
  pub carriage_return : fault_of 14 (word_write ++ 0x0D ∷ []) ≡ fault 0x0C 0
  pub short_and_misspelt : fault_of 14 (drop 1 lower_a) ≡ fault 0x0C 0
  pub empty : fault_of 14 [] ≡ fault 0x0C 0
  -- the first column, one in the middle, the last; a NUL, a space, a letter O, a small letter, bytes above 7F
  pub first : fault_of 14 (with_byte_in 1 0x00) ≡ fault 0x0D 1
  pub middle : fault_of 14 (with_byte_in 7 0x20) ≡ fault 0x0D 7
  pub last : fault_of 14 (with_byte_in 14 0x4F) ≡ fault 0x0D 14
  pub small : fault_of 14 (with_byte_in 2 0x61) ≡ fault 0x0D 2
  pub high : (fault_of 14 (with_byte_in 9 0x80) ≡ fault 0x0D 9) × (fault_of 14 (with_byte_in 10 0xFF) ≡ fault 0x0D 10)
  -- thirteen digits and a carriage return
  pub short_with_return : fault_of 14 (thirteen ++ 0x0D ∷ []) ≡ fault 0x0D 14
  -- of several the first counts
  pub two : fault_of 14 (0x30 ∷ 0x61 ∷ 0x20 ∷ drop 3 word_write) ≡ fault 0x0D 2
  pub all : fault_of 14 (replicate 14 0x78) ≡ fault 0x0D 1

-- ---- An answer line with every digit

abbrev pub each_digit : Answer
each_digit = record {
  refusal = 0x12;
  phase = 0x34;
  granted = 0x56;
  lines = 0x78;
  signals = 0x9A;
  status = 0xBC;
  cycles = 0xDE;
  datum = 0xF012;
}

pub record AnswerInPlace : Type 0 where
  pub line : answer_line each_digit
      ≡ 0x31 ∷ 0x32 ∷ 0x33 ∷ 0x34 ∷ 0x35 ∷ 0x36 ∷ 0x37 ∷ 0x38 ∷ 0x39 ∷ 0x41 ∷ 0x42 ∷ 0x43 ∷ 0x44 ∷ 0x45 ∷ 0x46 ∷ 0x30 ∷ 0x31 ∷ 0x32 ∷ 0x0A ∷ []
  pub long : answer_length ≡ 19
  -- it takes so many bytes at the front, and a shorter place is left alone
  pub room : bytes_put (replicate (1 + answer_length) 0) ≡ answer_length
  pub whole : bytes_put (replicate answer_length 0) ≡ answer_length
  pub none : bytes_put (replicate (answer_length - 1) 0) ≡ 0
  pub behind : drop answer_length (printed each_digit (replicate (1 + answer_length) 0x55)) ≡ 0x55 ∷ []
  pub too_short : printed each_digit (replicate (answer_length - 1) 0x55) ≡ replicate (answer_length - 1) 0x55

-- ---- An outcome line

pub record OutcomeInPlace : Type 0 where
  pub line : outcome_line (figures 0x12 0x34 0x56 0x9F) ≡ 0x31 ∷ 0x32 ∷ 0x33 ∷ 0x34 ∷ 0x35 ∷ 0x36 ∷ 0x39 ∷ 0x46 ∷ 0x0A ∷ []
  -- card 9 loses at line 1 to card 10
  pub nine : outcome_line (figures 0x00 9 1 10) ≡ 0x30 ∷ 0x30 ∷ 0x30 ∷ 0x39 ∷ 0x30 ∷ 0x31 ∷ 0x30 ∷ 0x41 ∷ 0x0A ∷ []
  pub long : outcome_length ≡ 9
  pub room : outcome_bytes_put (replicate 144 0) ≡ 144
  pub none : outcome_bytes_put (replicate 143 0) ≡ 0

-- ---- Lines

pub record LinesOfTexts : Type 0 where
  pub nothing : text_lines [] ≡ []
  pub newline_alone : text_lines (newline ∷ []) ≡ [] ∷ []
  pub ended : text_lines (0x41 ∷ newline ∷ []) ≡ (0x41 ∷ []) ∷ []
  pub unended : text_lines (0x41 ∷ newline ∷ 0x42 ∷ []) ≡ (0x41 ∷ []) ∷ (0x42 ∷ []) ∷ []
  pub empty_between : text_lines (0x41 ∷ newline ∷ newline ∷ 0x42 ∷ []) ≡ (0x41 ∷ []) ∷ [] ∷ (0x42 ∷ []) ∷ []
  pub carriage_return : text_lines (0x41 ∷ 0x0D ∷ newline ∷ []) ≡ (0x41 ∷ 0x0D ∷ []) ∷ []

-- An unended line is held up to the byte behind the longest right line; a text with a newline is held whole.
pub record Held : Type 0 where
  pub long : longest ≡ 20
  pub right : held_of (replicate longest 0x30) ≡ replicate longest 0x30
  pub more : held_of (replicate 30 0x30) ≡ replicate (1 + longest) 0x30
  pub lines : held_of (replicate 30 0x30 ++ newline ∷ []) ≡ replicate 30 0x30 ++ newline ∷ []

-- ---- Lines taken where there is room

-- a reader that says each line again, up to two bytes of it, counts the lines, and says at the end how many there were
abbrev pub echo : Reader ℕ
echo = record { says = λ count line. take 2 line; turns = λ count line. suc count; closes = λ count. count ∷ []; most = 2 }

-- AB, C and DE have ended, and F has not
abbrev pub few_lines : List ℕ
few_lines = 0x41 ∷ 0x42 ∷ newline ∷ 0x43 ∷ newline ∷ 0x44 ∷ 0x45 ∷ newline ∷ 0x46 ∷ []

pub record LinesWithRoom : Type 0 where
  pub all : taken_off echo 5 0 few_lines ≡ record { state = 3; said = 0x41 ∷ 0x42 ∷ 0x43 ∷ 0x44 ∷ 0x45 ∷ []; used = 8; rest = 0x46 ∷ [] }
  -- behind AB and C a byte of four is left, and two might be said
  pub two : taken_off echo 4 0 few_lines
      ≡ record { state = 2; said = 0x41 ∷ 0x42 ∷ 0x43 ∷ []; used = 5; rest = 0x44 ∷ 0x45 ∷ newline ∷ 0x46 ∷ [] }
  -- the end of the text ends the last line, and only then is the count said
  pub whole : answers_to echo 0 (text_lines few_lines) ≡ 0x41 ∷ 0x42 ∷ 0x43 ∷ 0x44 ∷ 0x45 ∷ 0x46 ∷ 4 ∷ []
  pub none : taken_off echo 1 0 few_lines ≡ record { state = 0; said = []; used = 0; rest = few_lines }
  pub first : first_taken echo 0 few_lines
      ≡ record { state = 1; said = 0x41 ∷ 0x42 ∷ []; used = 3; rest = 0x43 ∷ newline ∷ 0x44 ∷ 0x45 ∷ newline ∷ 0x46 ∷ [] }
