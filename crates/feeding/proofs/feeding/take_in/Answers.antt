-- Lines are taken, and the rest is held.
-- ---- Places
use mathlib.Core.Path.{sym}
use lib.Seq.{length-take-le}
use Rattle.session.specs.Feeding.{world_of}
use Rattle.session.specs.World.{World}
use Rattle.session.proofs.FeedLaws.{used_within, fed_taken}
use Rattle.feeding.proofs.feeding.take_in.Goals as goal

pub slice_bounds-take_lines-end-2 : goal.slice_bounds-take_lines-end-2
slice_bounds-take_lines-end-2 c =
    sym (length-take-le c.args.filled c.args.text.now c.requires.filled_in_bounds)

pub hold-held-requires : goal.hold-held-requires
hold-held-requires c =
    let given : World = let from = c.args in world_of from.session from.memory.now from.ports.now in
    record {
      from_le_filled = used_within c.args.wanted given c.args.text.now c.args.out.now c.args.filled c.take_lines-taken.result
          c.requires.filled_in_bounds c.take_lines-taken.ensures.taken;
      filled_in_bounds = c.requires.filled_in_bounds;
    }

pub returns : goal.returns
returns c =
    let given : World = let from = c.args in world_of from.session from.memory.now from.ports.now in
    let from = c.args in
    let hands = fed_taken from.wanted given from.text.now from.out.now from.filled c.take_lines-taken.result c.hold-held.result _ _ _ _ (
      c.take_lines-taken.ensures.taken,
      (
        c.take_lines-taken.ensures.out_left,
        (
          c.take_lines-taken.ensures.memory_left,
          c.take_lines-taken.ensures.ports_left,
        ),
      ),
    ) c.hold-held.ensures.held c.hold-held.ensures.left in
    record { fed = hands.0; text_left = hands.1.0; out_left = hands.1.1.0; memory_left = hands.1.1.1.0; ports_left = hands.1.1.1.1 }
