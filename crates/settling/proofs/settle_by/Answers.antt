-- The looks taken so far are the leading part of the list, and no shorter part settles the lines.
use mathlib.Core.Path.{sym, subst, ◌∙◌}
use native.Mathlib.Nat.{le_refl, le_antisymm}
use native.Mathlib.Omega.{arith}
use Rattle.bus.proofs.SettleLaws.{Reached, reached_at_first, reached_next, stops, never}
use Rattle.settling.proofs.settle_by.Goals as goal

pub loop-n-init : goal.loop-n-init
loop-n-init c = reached_at_first c.args.start c.args.cards.now

pub returns-then-is_settled : goal.returns-then-is_settled
returns-then-is_settled c =
    stops c.args.start c.args.cards.now _ c.loop-n.invariant (sym c.is_settled.ensures ∙ c.if-is_settled.true) (omega arith)

pub loop-n-preserved : goal.loop-n-preserved
loop-n-preserved c =
    reached_next c.args.start c.args.cards.now _ c.loop-n.invariant (sym c.is_settled.ensures ∙ c.if-is_settled.false) c.loop-n-test.true c.look-bus.ensures

-- after the whole list
pub returns-then-is_settled-2 : goal.returns-then-is_settled-2
returns-then-is_settled-2 c =
    let reached = subst (λ n. Reached c.args.start c.args.cards.now n c.loop-n.bus) (le_antisymm c.loop-n.auto.n-end c.loop-n-test.false) c.loop-n.invariant in
    stops c.args.start c.args.cards.now _ reached (sym c.is_settled-2.ensures ∙ c.if-is_settled-2.true) (le_refl _)

pub returns-else-is_settled-2 : goal.returns-else-is_settled-2
returns-else-is_settled-2 c =
    let reached = subst (λ n. Reached c.args.start c.args.cards.now n c.loop-n.bus) (le_antisymm c.loop-n.auto.n-end c.loop-n-test.false) c.loop-n.invariant in
    c.left_alone.ensures ∙ never c.args.start c.args.cards.now reached (sym c.is_settled-2.ensures ∙ c.if-is_settled-2.false)
