-- A rest without a newline is its own first line.
use mathlib.Core.Logic.{inl, inr}
use Rattle.session.proofs.CallLaws.{held_count_cut, held_count_whole}
use Rattle.feeding.proofs.holding.held_count.Goals as goal
use Rattle.feeding.proofs.holding.held_count.Goals.{
  else-line_end-size-via-then-line_end-size+else-size-gt-MOST_HELD,
  else-line_end-size-via-else-line_end-size,
}

pub returns-then-size-gt-MOST_HELD : goal.returns-then-size-gt-MOST_HELD
returns-then-size-gt-MOST_HELD c =
    held_count_cut c.args.rest.now _ c.line_end.ensures c.if-line_end-size.true c.if-size-gt-MOST_HELD.true

pub returns-else-line_end-size : goal.returns-else-line_end-size
returns-else-line_end-size c =
    elim c.else-line_end-size.branch [
      | else-line_end-size-via-then-line_end-size+else-size-gt-MOST_HELD w ↦
          held_count_whole c.args.rest.now _ c.line_end.ensures (inr w.if-size-gt-MOST_HELD.false)
      | else-line_end-size-via-else-line_end-size w ↦ held_count_whole c.args.rest.now _ c.line_end.ensures (inl w.if-line_end-size.false)
    ]
