-- The setup line and the event line, field by field, and what a text begins with (01, "The program and one whole run").
use Rattle.std.specs.Prelude.{ℕ, ◌+◌, cond, List, [], ◌∷◌, map, length, take, drop}
use Rattle.words.specs.Parts.{total, nth_part}
use Rattle.bus.specs.Refusal.{accepted}
use Rattle.bus.specs.State.{chassis, empty_chassis}
use Rattle.bus.specs.declared.state.Chassis.{Chassis}
use Rattle.judgement.specs.Table.{event_of}
use Rattle.judgement.specs.declared.event.Event.{Event}
use Rattle.text.specs.Digits.{value_of, number_of, is_digits}
use Rattle.text.specs.Faults.{Fault, fault, fault_of}
use Rattle.text.specs.Newlines.{has_newline, first_line}

-- a line that is no event's: its bytes, and what is wrong with it
pub record BadLine : Type 0 where
  pub size : ℕ
  pub fault : Fault

-- What a text begins with.
pub data Line : Type 0 where
  -- a line with an event
  Frame : Event → Line
  -- another line
  Bad : BadLine → Line
  -- a line that isn't ended yet
  Unended : Line

-- what setup is given by its line, empty where there is a fault
pub record SetupLine : Type 0 where
  pub fault : Fault
  pub chassis : Chassis

-- so many digits of a line from a place on
abbrev pub digits_from : ℕ → ℕ → List ℕ → List ℕ
digits_from at count line = take count (drop at line)

-- ---- The event line: the digits of kind, speaker, address and datum

abbrev pub event_widths : List ℕ
event_widths = 2 ∷ 2 ∷ 6 ∷ 4 ∷ []

abbrev pub event_digits : ℕ
event_digits = total event_widths

-- the number that the digits of a field write
abbrev pub event_field : ℕ → List ℕ → ℕ
event_field n line = number_of (nth_part n event_widths line)

abbrev pub event_in : List ℕ → Event
event_in line = event_of (event_field 0 line) (event_field 1 line) (event_field 2 line) (event_field 3 line)

-- what is told of a line that is no event's
abbrev pub bad_line : List ℕ → BadLine
bad_line line = record { size = length line; fault = fault_of event_digits line }

-- A line that has ended is an event's or bad.
abbrev pub line_in : List ℕ → Line
line_in line = cond (is_digits event_digits line) (Line.Frame (event_in line)) (Line.Bad (bad_line line))

-- What a text begins with: such a line, or one that isn't ended yet.
abbrev pub next_line : List ℕ → Line
next_line text = cond (has_newline text) (line_in (first_line text)) Line.Unended

-- its number as 01 and 02 have them: a frame is judged as its event is, and a line that isn't ended is not judged
abbrev pub line_number : Line → ℕ
line_number (Frame event) = accepted
line_number (Bad bad) = bad.fault.refusal
line_number Unended = accepted

-- where a character is to blame its column, and else 0
abbrev pub line_column : Line → ℕ
line_column (Frame event) = 0
line_column (Bad bad) = bad.fault.column
line_column Unended = 0

-- the bytes that it takes off the text, its newline among them
abbrev pub line_bytes : Line → ℕ
line_bytes (Frame event) = event_digits + 1
line_bytes (Bad bad) = bad.size + 1
line_bytes Unended = 0

-- ---- The setup line: the digits of the fitted set, then one for each page

abbrev pub setup_widths : List ℕ
setup_widths = 4 ∷ 16 ∷ []

abbrev pub setup_digits : ℕ
setup_digits = total setup_widths

-- the longest right line
abbrev pub longest : ℕ
longest = setup_digits

abbrev pub fitted_in : List ℕ → ℕ
fitted_in line = number_of (nth_part 0 setup_widths line)

abbrev pub pages_in : List ℕ → List ℕ
pages_in line = map value_of (nth_part 1 setup_widths line)

-- what setup is given
abbrev pub chassis_in : List ℕ → Chassis
chassis_in line = chassis (fitted_in line) (pages_in line)

abbrev pub setup_in : List ℕ → SetupLine
setup_in line =
    cond (is_digits setup_digits line) (record { fault = fault accepted 0; chassis = chassis_in line })
    (record { fault = fault_of setup_digits line; chassis = empty_chassis })
