-- The pictures' bytes are counted in a byte.
use native.Mathlib.Omega.{arith}
use Prim.Native.Nat.{◌≤◌}
use lib.ListN.{length}
use Rattle.judgement.specs.Table.{event_of}
use Rattle.pins.specs.Picture.{most_pictured}
use Rattle.pins.proofs.DigitLaws.{pictures_fit, pictured_fits}
use Rattle.s100_c.proofs.pictures.s100_picture.Goals as goal

pub overflow_cast-result : goal.overflow_cast-result
overflow_cast-result c =
    let place = c.in-Some-as_mut_array.lines.now in
    let event = event_of c.args.kind 0 c.args.address 0 in
    let room : most_pictured ≤ length place = omega arith in
    omega (arith, c.put_pictures.ensures.put, (pictured_fits event c.answer_in.result place room).0, pictures_fit event c.answer_in.result)
