-- By the stage: a run that has not begun has left nothing.
use Rattle.feeding.proofs.ClosingLaws.{nothing_left, outcomes_left_holds}
use Rattle.feeding.proofs.closing.put_left.Goals as goal

pub returns-in-Awaiting : goal.returns-in-Awaiting
returns-in-Awaiting c =
    let from = c.args in
    let hands = nothing_left from.session.stage from.session.bus from.rest.now c.in-Awaiting.is in
    record { put = hands.0; left = hands.1 }

pub returns-in-Running : goal.returns-in-Running
returns-in-Running c =
    let from = c.args in
    let hands = outcomes_left_holds from.session.stage from.session.bus from.rest.now _ _ (c.put_outcomes.ensures.put, c.put_outcomes.ensures.left)
    c.in-Running.is in
    record { put = hands.0; left = hands.1 }
