-- What was done, with what the rest will do, is the whole.
use native.Mathlib.Omega.{arith}
use Rattle.session.proofs.LoopLaws.{size_within, written_most, turning_start, turning_next, turning_none, rest_less, returned_full, room_behind}
use Rattle.feeding.proofs.taking.take_lines.Goals as goal

pub loop-out-init : goal.loop-out-init
loop-out-init c =
    turning_start c.args.wanted c.args.text.now c.args.out.now c.args.memory.now c.args.ports.now
    c.args.start.stage c.args.start.bus (record { fit = c.requires.ports_value; sense = c.requires.bus_value })

pub take_line-line-requires : goal.take_line-line-requires
take_line-line-requires c =
    let inv = c.loop-out.invariant in
    record {
      wanted_in_bounds = room_behind _ inv (omega (arith, c.loop-out-test, c.most_said-most.ensures));
      ports_value = inv.sound.fit;
      bus_value = inv.sound.sense;
    }

pub slice_bounds-rest-count : goal.slice_bounds-rest-count
slice_bounds-rest-count c =
    size_within _ c.loop-out.invariant _ _ _ _
    (c.take_line-line.ensures.taken, (c.take_line-line.ensures.out_left, (c.take_line-line.ensures.memory_left, c.take_line-line.ensures.ports_left)))

pub slice_bounds-rest-start : goal.slice_bounds-rest-start
slice_bounds-rest-start c =
    size_within _ c.loop-out.invariant _ _ _ _
    (c.take_line-line.ensures.taken, (c.take_line-line.ensures.out_left, (c.take_line-line.ensures.memory_left, c.take_line-line.ensures.ports_left)))

pub overflow_add-used : goal.overflow_add-used
overflow_add-used c =
    let within = size_within _ c.loop-out.invariant _ _ _ _
    (c.take_line-line.ensures.taken, (c.take_line-line.ensures.out_left, (c.take_line-line.ensures.memory_left, c.take_line-line.ensures.ports_left))) in
    omega (arith, within, c.loop-out.invariant.within)

pub overflow_add-written : goal.overflow_add-written
overflow_add-written c =
    let most = written_most _ c.loop-out.invariant _ _ _ _
    (c.take_line-line.ensures.taken, (c.take_line-line.ensures.out_left, (c.take_line-line.ensures.memory_left, c.take_line-line.ensures.ports_left))) in
    omega (arith, most, c.loop-out-test, c.most_said-most.ensures, c.loop-out.invariant.going.long)

pub loop-out-smaller : goal.loop-out-smaller
loop-out-smaller c =
    rest_less _ c.loop-out.invariant _ _ _ _ (
      c.take_line-line.ensures.taken,
      (
        c.take_line-line.ensures.out_left,
        (c.take_line-line.ensures.memory_left, c.take_line-line.ensures.ports_left),
      ),
    ) c.if-size-eq0.false

pub loop-out-preserved : goal.loop-out-preserved
loop-out-preserved c =
    turning_next _ c.loop-out.invariant _ _ _ _ (
      c.take_line-line.ensures.taken,
      (
        c.take_line-line.ensures.out_left,
        (c.take_line-line.ensures.memory_left, c.take_line-line.ensures.ports_left),
      ),
    ) (omega arith) (omega arith) (omega (
      arith,
      c.loop-out-test,
      c.most_said-most.ensures,
    )) c.if-size-eq0.false

pub returns-after-loop-out : goal.returns-after-loop-out
returns-after-loop-out c =
    let hands = returned_full _ c.loop-out.invariant (omega (arith, c.loop-out-test, c.most_said-most.ensures)) in
    record { taken = hands.0; out_left = hands.1.0; memory_left = hands.1.1.0; ports_left = hands.1.1.1 }

pub returns-then-size-eq0 : goal.returns-then-size-eq0
returns-then-size-eq0 c =
    let hands = turning_none _ c.loop-out.invariant _ _ _ _ (
      c.take_line-line.ensures.taken,
      (
        c.take_line-line.ensures.out_left,
        (c.take_line-line.ensures.memory_left, c.take_line-line.ensures.ports_left),
      ),
    ) c.if-size-eq0.true in
    record { taken = hands.0; out_left = hands.1.0; memory_left = hands.1.1.0; ports_left = hands.1.1.1 }
