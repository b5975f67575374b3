-- What is put at the end stands behind what the last lines got.
use mathlib.Core.Path.{sym}
use borrow.Author.Tests.{eq-eqb}
use Rattle.bus.specs.Refusal as Refusal
use Rattle.session.specs.Feeding.{fed_told, world_of, feed_refusal}
use Rattle.session.specs.World.{World}
use Rattle.session.proofs.FeedLaws.{then_closed, finished, written_within}
use Rattle.feeding.proofs.feeding.finish.Goals as goal

pub close-requires : goal.close-requires
close-requires c =
    let from = c.args in
    written_within c.from-wanted.result (world_of from.session from.memory.now from.ports.now) c.end_line-filled.new.text from.out.now
    c.end_line-filled.result (fed_told c.take_in-fed.result) _ _ _ _ (
      c.take_in-fed.ensures.fed,
      (
        c.take_in-fed.ensures.text_left,
        (c.take_in-fed.ensures.out_left, (c.take_in-fed.ensures.memory_left, c.take_in-fed.ensures.ports_left)),
      ),
    )

pub returns-clause-out_left : goal.returns-clause-out_left
returns-clause-out_left c =
    let from = c.args in
    let wanted = c.from-wanted.result in
    let world : World = world_of from.session from.memory.now from.ports.now in
    let hands = finished wanted world from.text.now from.out.now from.held _ _ _ _ _ _ _
    c.end_line-filled.ensures.ended_at c.end_line-filled.ensures.text_left
    (then_closed wanted world c.end_line-filled.new.text from.out.now c.end_line-filled.result (fed_told c.take_in-fed.result) _ _ _ _ (fed_told
    c.close.result) _ (
      c.take_in-fed.ensures.fed,
      (
        c.take_in-fed.ensures.text_left,
        (c.take_in-fed.ensures.out_left, (c.take_in-fed.ensures.memory_left, c.take_in-fed.ensures.ports_left)),
      ),
    ) (c.close.ensures.more, c.close.ensures.out_left)) in
    rw (
      ← c.from-wanted.ensures,
      eq-eqb (feed_refusal from.session.bus from.memory.now from.ports.now from.text.now from.held) Refusal.accepted (sym c.in_ok-check.ensures),
    ) hands.1.1.0
