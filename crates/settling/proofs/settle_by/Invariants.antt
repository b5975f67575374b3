-- The looks taken so far are the leading part of the list, and no shorter part settles the lines.
use Rattle.bus.proofs.SettleLaws.{Reached}
use Rattle.settling.proofs.settle_by.Given as goal

abbrev pub invariant-loop-n : goal.invariant-loop-n
invariant-loop-n l = Reached l.fn.start l.cards l.n l.bus
