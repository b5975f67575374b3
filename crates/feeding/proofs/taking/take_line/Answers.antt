-- By the stage.
use Rattle.session.specs.declared.state.Stage.TheVariants.{Awaiting, Running, Ended}
use Rattle.session.proofs.LineLaws.{at_stage, awaiting_keeps, ended_keeps, ended_silent}
use Rattle.feeding.proofs.taking.take_line.Goals as goal

pub returns-in-Awaiting : goal.returns-in-Awaiting
returns-in-Awaiting c =
    let from = c.args in
    let m = from.memory.now in
    let p = from.ports.now in
    let hands = at_stage from.wanted from.stage Awaiting from.bus m p from.rest.now from.out.now _ _ m p
    c.in-Awaiting.is
    (c.take_setup.ensures.taken m p, (c.take_setup.ensures.out_left m p, awaiting_keeps from.wanted from.bus from.rest.now m p)) in
    record { taken = hands.0; out_left = hands.1.0; memory_left = hands.1.1.0; ports_left = hands.1.1.1 }

pub returns-in-Running : goal.returns-in-Running
returns-in-Running c =
    let from = c.args in
    let hands = at_stage from.wanted from.stage Running from.bus from.memory.now from.ports.now from.rest.now from.out.now _ _ _ _
    c.in-Running.is
    (c.take_event.ensures.taken, (c.take_event.ensures.out_left, (c.take_event.ensures.memory_left, c.take_event.ensures.ports_left))) in
    record { taken = hands.0; out_left = hands.1.0; memory_left = hands.1.1.0; ports_left = hands.1.1.1 }

pub returns-in-Ended : goal.returns-in-Ended
returns-in-Ended c =
    let from = c.args in
    let m = from.memory.now in
    let p = from.ports.now in
    let hands = at_stage from.wanted from.stage Ended from.bus m p from.rest.now from.out.now _ _ m p c.in-Ended.is (
      c.pass_line.ensures from.wanted m p,
      (
        ended_silent from.wanted from.bus m p from.rest.now from.out.now,
        ended_keeps from.wanted from.bus from.rest.now m p,
      ),
    ) in
    record { taken = hands.0; out_left = hands.1.0; memory_left = hands.1.1.0; ports_left = hands.1.1.1 }
