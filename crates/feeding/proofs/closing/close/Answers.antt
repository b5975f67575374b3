-- What is put into the rest of the place stands behind what was written.
use Rattle.session.specs.Feeding.{fed_told}
use Rattle.feeding.proofs.ClosingLaws.{closed_as, more_fits}
use native.Mathlib.Omega.{arith}
use Rattle.feeding.proofs.closing.close.Goals as goal

pub overflow_add-result : goal.overflow_add-result
overflow_add-result c =
    omega (
      arith,
      more_fits c.args.wanted (fed_told c.args.fed) c.args.out.now c.put_closing-more.result c.put_closing-more.new.rest
          c.requires (c.put_closing-more.ensures.put, c.put_closing-more.ensures.left),
    )

pub returns : goal.returns
returns c =
    let hands = closed_as c.args.wanted (fed_told c.args.fed) c.args.out.now c.put_closing-more.result c.put_closing-more.new.rest
    c.requires (c.put_closing-more.ensures.put, c.put_closing-more.ensures.left) in
    record { more = hands.0; out_left = hands.1 }
