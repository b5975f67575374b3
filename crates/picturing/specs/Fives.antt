-- Five digits of a picture, for twenty pins: what one function puts.
use Rattle.std.specs.Prelude.{ℕ, ◌+◌, Bool, cond, List}
use Rattle.words.specs.Bits.{bit_at}
use Rattle.words.specs.Below.{list_below}
use Rattle.pins.specs.BusLine.{BusLine, address, data_out, data_in, priority, pulled_up, status, word_request, control, memory_write, unmodelled, is_driven}
use Rattle.pins.specs.Pin.{Pin, is_high}
use Rattle.pins.specs.Picture.{pins_digit}
use Rattle.pins.specs.declared.moments.Moment.{Moment}

-- the digits from that one on, counted from 0
abbrev pub five_from : ℕ → (Pin → Bool) → List ℕ
five_from k test = list_below (λ i. pins_digit test (k + i)) 5

abbrev pub five_levels : ℕ → Moment → List ℕ
five_levels k m = five_from k (λ pin. is_high pin m)

abbrev pub five_driven : ℕ → Moment → List ℕ
five_driven k m = five_from k (λ pin. is_driven pin.line m)

-- ---- Levels of a moment at which what isn't driven of address and bytes is 0

abbrev pub quieted : Moment → Moment
quieted m = record {
  signals = m.signals;
  lines = m.lines;
  control = m.control;
  status = m.status;
  address = cond m.cyclic m.address 0;
  dout = cond m.doutDriven m.dout 0;
  din = cond m.dinDriven m.din 0;
  cyclic = m.cyclic;
  doutDriven = m.doutDriven;
  dinDriven = m.dinDriven;
}

-- then their pins need not be asked whether they are driven
abbrev pub shown_by : BusLine → Moment → Bool → Bool
shown_by (address n) m high = bit_at m.address n
shown_by (data_out n) m high = bit_at m.dout n
shown_by (data_in n) m high = bit_at m.din n
shown_by (priority n) m high = high
shown_by (pulled_up weight) m high = high
shown_by (status weight) m high = high
shown_by word_request m high = high
shown_by (control weight) m high = high
shown_by memory_write m high = high
shown_by (unmodelled name) m high = high

abbrev pub five_shown : ℕ → Moment → List ℕ
five_shown k m = five_from k (λ pin. shown_by pin.line m (is_high pin m))
