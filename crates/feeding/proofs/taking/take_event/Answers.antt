-- By what the text begins with.
use mathlib.Core.Path.{◌≡◌, ap}
use native.Mathlib.Omega.{arith}
use Rattle.text.specs.Frames.{BadLine, Line, next_line}
use Rattle.text.specs.Told.{bad_line_told}
use Rattle.text.proofs.FrameLaws.{spoilt}
use Rattle.text.proofs.NewlineLaws.{line_within}
use Rattle.session.proofs.LineLaws.{frame_taken, bad_taken, none_ended}
use Rattle.feeding.proofs.taking.take_event.Goals as goal

pub returns-in-Some-Ok : goal.returns-in-Some-Ok
returns-in-Some-Ok c =
    let framed : Line.Frame c.in-Some-Ok.event ≡ next_line c.args.rest.now = rw c.in-Some-Ok.field-0-is at c.in-Some-Ok.ensures in
    rw c.told.ensures (let hands = frame_taken c.args.wanted c.args.bus c.args.memory.now c.args.ports.now c.args.rest.now c.args.out.now
    _ _ _ framed c.requires.ports_value c.requires.bus_value _ _ _ c.sound_step-stepped.ensures.both c.sound_step-stepped.ensures.memory_left
    c.sound_step-stepped.ensures.ports_left c.put_event-written.ensures.put c.put_event-written.ensures.left in
    record { taken = hands.0; out_left = hands.1.0; memory_left = hands.1.1.0; ports_left = hands.1.1.1 })

pub overflow_add-bad : goal.overflow_add-bad
overflow_add-bad c =
    let rest = c.args.rest.now in
    let bad : Line.Bad (bad_line_told c.in-Some-Err.bad) ≡ next_line rest = rw c.in-Some-Err.field-0-is at c.in-Some-Err.ensures in
    let spoils = spoilt rest _ bad in
    omega (arith, ap (λ (b : BadLine). b.size) spoils.same, line_within rest spoils.has)

pub returns-in-Some-Err : goal.returns-in-Some-Err
returns-in-Some-Err c =
    let bad : Line.Bad (bad_line_told c.in-Some-Err.bad) ≡ next_line c.args.rest.now = rw c.in-Some-Err.field-0-is at c.in-Some-Err.ensures in
    rw c.told-in-Some-Err.ensures (let hands = bad_taken c.args.wanted c.args.bus c.args.memory.now c.args.ports.now c.args.rest.now c.args.out.now
    _ _ _ bad _ c.fault_answer.ensures c.put_reply-written.ensures.put c.put_reply-written.ensures.left in
    record { taken = hands.0; out_left = hands.1.0; memory_left = hands.1.1.0; ports_left = hands.1.1.1 })

pub returns-in-None : goal.returns-in-None
returns-in-None c =
    rw c.told-in-None.ensures (let hands = none_ended c.args.wanted c.args.bus c.args.memory.now c.args.ports.now c.args.rest.now c.args.out.now
    c.in-None.ensures in record { taken = hands.0; out_left = hands.1.0; memory_left = hands.1.1.0; ports_left = hands.1.1.1 })
