-- A picture read again: from its digits to phase, signals and priority lines (02, CR 1). It goes by what is driven.
use Rattle.std.specs.Prelude.{ℕ, ◌+◌, ◌-◌, ◌/◌, ◌%◌, ◌^◌, Bool, cond, not, ◌&&◌, List, [], ◌∷◌, eqb, get_or}
use Rattle.words.specs.Bits.{bit_at}
use Rattle.words.specs.Among.{who_has}
use Rattle.phases.specs.Signal.{pHLDA, SIXTN, sXTRQ, signal_table}
use Rattle.bus.specs.Refusal.{accepted}
use Rattle.text.specs.Digits.{value_of, is_digits}
use Rattle.text.specs.Faults.{fault_of}
use Rattle.pins.specs.BusLine.{BusLine, address, data_out, data_in, priority, pulled_up, status, word_request, control, memory_write, unmodelled}
use Rattle.pins.specs.Pin.{Pin, pin_table}
use Rattle.pins.specs.Picture.{level_digits, picture_digits}

-- What the pins of a picture tell, or why its line can't be read; behind 0D the column of its first wrong character, and else 0.
pub record Seen : Type 0 where
  pub refusal : ℕ
  pub phase : ℕ
  pub signals : ℕ
  pub lines : ℕ
  pub column : ℕ

-- ---- Pins on a line of digits

-- the bit of a pin, counted from 1, in digits that begin at a place: four pins to a digit, the first of them in the top bit
abbrev pub bit_from : ℕ → List ℕ → ℕ → Bool
bit_from at line n = bit_at (value_of (get_or line (at + (n - 1) / 4) 0)) (3 - (n - 1) % 4)

abbrev pub high_on : List ℕ → ℕ → Bool
high_on line n = bit_from 0 line n

abbrev pub driven_on : List ℕ → ℕ → Bool
driven_on line n = bit_from level_digits line n

-- driven, and at the level that stands for true
abbrev pub true_on : List ℕ → ℕ → Bool → Bool
true_on line n is_starred = driven_on line n && cond is_starred (not (high_on line n)) (high_on line n)

-- ---- What the pins tell

-- the weight of the signal that a line carries, 0 where it carries none
abbrev pub signal_on : BusLine → ℕ
signal_on (address n) = 0
signal_on (data_out n) = 0
signal_on (data_in n) = 0
signal_on (priority n) = 0
signal_on (pulled_up weight) = weight
signal_on (status weight) = 0
signal_on word_request = sXTRQ
signal_on (control weight) = cond (eqb weight pHLDA) pHLDA 0
signal_on memory_write = 0
signal_on (unmodelled name) = 0

-- what a line weighs in the number that the priority lines show
abbrev pub priority_on : BusLine → ℕ
priority_on (address n) = 0
priority_on (data_out n) = 0
priority_on (data_in n) = 0
priority_on (priority n) = 2 ^ n
priority_on (pulled_up weight) = 0
priority_on (status weight) = 0
priority_on word_request = 0
priority_on (control weight) = 0
priority_on memory_write = 0
priority_on (unmodelled name) = 0

-- the weights of the lines that are true on these pins, together
unfoldable pub gathered : (BusLine → ℕ) → List ℕ → List (ℕ × Pin) → ℕ
gathered weigh line [] = 0
gathered weigh line (row ∷ rows) = cond (true_on line row.0 row.1.is_starred) (weigh row.1.line) 0 + gathered weigh line rows

abbrev pub signals_on : List ℕ → ℕ
signals_on line = gathered signal_on line pin_table

abbrev pub priority_lines_on : List ℕ → ℕ
priority_lines_on line = gathered priority_on line pin_table

-- where no phase has these signals
abbrev pub phase_unknown : ℕ
phase_unknown = 0xFF

-- the phase that has these signals, SIXTN and sXTRQ aside, which weigh more than those of a phase
abbrev pub phase_with : ℕ → ℕ
phase_with signals = who_has (signals % SIXTN) signal_table phase_unknown

-- ---- A line

abbrev pub seen : ℕ → ℕ → ℕ → Seen
seen phase signals lines = record { refusal = accepted; phase = phase; signals = signals; lines = lines; column = 0 }

abbrev pub seen_on : List ℕ → Seen
seen_on line = seen (phase_with (signals_on line)) (signals_on line) (priority_lines_on line)

-- a line that can't be read: its number, and behind 0D the column of its first wrong character, else 0 (02, CR 2)
abbrev pub unseen : ℕ → ℕ → Seen
unseen refusal column = record { refusal = refusal; phase = 0; signals = 0; lines = 0; column = column }

unfoldable pub picture_in : List ℕ → Seen
picture_in line =
    cond (is_digits picture_digits line) (seen_on line) (unseen (fault_of picture_digits line).refusal (fault_of picture_digits line).column)
