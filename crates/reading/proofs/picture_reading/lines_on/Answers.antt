-- Four weights.
use native.Mathlib.Omega.{arith}
use Rattle.pins.proofs.GatherLaws.{lines_in_order}
use Rattle.reading.proofs.picture_reading.lines_on.Goals as goal

pub returns : goal.returns
returns c =
    omega (
      arith,
      c.weight_on.ensures.is,
      c.weight_on-2.ensures.is,
      c.weight_on-3.ensures.is,
      c.weight_on-4.ensures.is,
      lines_in_order c.args.picture.line.now,
    )
