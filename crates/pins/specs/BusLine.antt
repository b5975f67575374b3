-- The lines of the bus at one moment: which of them are driven, and which are true (02, CR 1).
use Rattle.std.specs.Prelude.{ℕ, Bool, true, false}
use Prim.Native.String.{String}
use Rattle.words.specs.Bits.{bit_at}
use Rattle.phases.specs.Signal.{sXTRQ, is_on}
use Rattle.phases.specs.Control.{is_mwrt}
use Rattle.pins.specs.declared.moments.Moment.{Moment}

pub data BusLine : Type 0 where
  -- A n, DO n, DI n and DMA n
  address : ℕ → BusLine
  data_out : ℕ → BusLine
  data_in : ℕ → BusLine
  priority : ℕ → BusLine
  -- HOLD, SIXTN and the disable lines, by their weights among the signals
  pulled_up : ℕ → BusLine
  -- a status line, by its weight
  status : ℕ → BusLine
  -- sXTRQ, a status line that is weighed among the signals (000, 2.2.3.2)
  word_request : BusLine
  -- a control output, by its weight
  control : ℕ → BusLine
  -- MWRT
  memory_write : BusLine
  -- power, ground, and what the model lacks, by its name
  unmodelled : String → BusLine

-- Address, status and data count as driven in a cycle alone; what is pulled up always does, and so do MWRT and the control outputs.
abbrev pub is_driven : BusLine → Moment → Bool
is_driven (address n) m = m.cyclic
is_driven (data_out n) m = m.doutDriven
is_driven (data_in n) m = m.dinDriven
is_driven (priority n) m = true
is_driven (pulled_up weight) m = true
is_driven (status weight) m = m.cyclic
is_driven word_request m = m.cyclic
is_driven (control weight) m = true
is_driven memory_write m = true
is_driven (unmodelled name) m = false

abbrev pub is_true : BusLine → Moment → Bool
is_true (address n) m = bit_at m.address n
is_true (data_out n) m = bit_at m.dout n
is_true (data_in n) m = bit_at m.din n
is_true (priority n) m = bit_at m.lines n
is_true (pulled_up weight) m = is_on weight m.signals
is_true (status weight) m = is_on weight m.status
is_true word_request m = is_on sXTRQ m.signals
is_true (control weight) m = is_on weight m.control
is_true memory_write m = is_mwrt m.control m.status
is_true (unmodelled name) m = false
