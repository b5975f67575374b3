-- The lines so far are the OR of what the cards passed drive, and once no contender is left, the cards beyond add nothing.
use Prim.Native.Nat.{◌<◌, ◌≤◌}
use mathlib.Core.Path.{◌≡◌, ◌∙◌}
use native.Mathlib.Omega.{arith}
use borrow.Author.Rules.{rules}
use lib.ListN.{length}
use Rattle.words.specs.Below.{or_below}
use Rattle.words.proofs.BelowLaws.{or_start, or_next, or_rest, at_bound}
use Rattle.lines.specs.Arbitration.{shown}
use Rattle.cards.proofs.CardLaws.{left_first, left_next, left_none}
use Rattle.bus.proofs.state.Bus.lines.Goals as goal

pub loop-level-init : goal.loop-level-init
loop-level-init c =
    (omega arith, or_start _)

pub loop-level-preserved : goal.loop-level-preserved
loop-level-preserved c =
    let inv = c.loop-level.invariant in
    let size : length c.args.self.driven ≡ 16 = search rules in
    let card : c.loop-level.level-index < 16 = omega (arith, size, c.loop-level-test.true) in
    (left_next _ _ inv.0, or_next _ _ inv.1 (rw (← left_first _ _ inv.0 card) c.counted-lines.ensures))

pub returns-after-loop-level : goal.returns-after-loop-level
unfolding shown
returns-after-loop-level c =
    let size : length c.args.self.driven ≡ 16 = search rules in
    let passed : c.loop-level.level-index ≤ 16 = omega (arith, size, c.loop-level.auto) in
    at_bound (or_below _) c.loop-level.invariant.1 passed (omega (arith, size, c.loop-level-test.false))

pub returns-then-left-eq0 : goal.returns-then-left-eq0
unfolding shown
returns-then-left-eq0 c =
    let inv = c.loop-level.invariant in
    let size : length c.args.self.driven ≡ 16 = search rules in
    let card : c.loop-level.level-index < 16 = omega (arith, size, c.loop-level-test.true) in
    inv.1 ∙ or_rest _ _ 16 (omega (arith, card)) (λ k l h. rw (left_none _ _ inv.0 (omega (arith, c.if-left-eq0.true)) k l h))
