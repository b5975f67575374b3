-- What is wrong with a line that is to have so many digits: its length (01, "Refusals and their order"), or else a character (02, CR 2).
use Rattle.std.specs.Prelude.{ℕ, suc, cond, not, List, eqb, length, get_or}
use Rattle.words.specs.Among.{every_listed}
use Rattle.words.specs.First.{least_below}
use Rattle.bus.specs.Refusal.{accepted, wrong_line_length, wrong_character}
use Rattle.text.specs.Digits.{is_digit}

-- What is wrong with a line: its number, and the column of its first wrong character, counted from 1. Where no character is to blame the column
-- is 0, and where nothing is wrong the number too.
pub record Fault : Type 0 where
  pub refusal : ℕ
  pub column : ℕ

abbrev pub fault : ℕ → ℕ → Fault
fault refusal column = record { refusal = refusal; column = column }

-- the digits before the first byte that is none, all bytes where each is a digit
abbrev pub leading_digits : List ℕ → ℕ
leading_digits line = least_below (λ k. not (is_digit (get_or line k 0))) (length line)

-- the column of that byte, counted from 1
abbrev pub wrong_column : List ℕ → ℕ
wrong_column line = suc (leading_digits line)

-- the length before the characters; where no character is to blame the column is 0
abbrev pub fault_of : ℕ → List ℕ → Fault
fault_of count line =
    cond (eqb (length line) count)
    (cond (every_listed is_digit line) (fault accepted 0) (fault wrong_character (wrong_column line)))
    (fault wrong_line_length 0)
