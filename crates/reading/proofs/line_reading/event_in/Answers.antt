-- Each field is a number of its digits; of the address, two and then four.
use mathlib.Core.Path.{◌≡◌, refl}
use native.Mathlib.Omega.{arith}
use Rattle.text.specs.Frames.{event_digits, event_field}
use Rattle.text.proofs.DigitLaws.{four_digits, six_digits}
use Rattle.text.proofs.FaultLaws.{all_digits_of}
use Rattle.reading.proofs.line_reading.event_in.Goals as goal

pub returns : goal.returns
returns c =
    let line = c.args.line.line.now in
    let long = (all_digits_of event_digits line c.args.line.right).0 in
    let address : c.from_be_bytes.result ≡ event_field 2 line =
    omega (
      arith,
      c.from_be_bytes.ensures,
      c.two-3.ensures,
      c.two-4.ensures,
      c.two-5.ensures,
      six_digits 4 line (omega (arith, long)),
      four_digits 6 line (omega (arith, long)),
    ) in
    rw (c.two.ensures, c.two-2.ensures, address, c.four.ensures) refl
