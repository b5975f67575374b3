-- What was done, with what the rest will do, is the whole.
use lib.ListN.{length}
use Rattle.session.specs.World.{world}
use Rattle.session.proofs.LoopLaws.{Turning}
use Rattle.feeding.proofs.taking.take_lines.Given as goal

abbrev pub invariant-loop-out : goal.invariant-loop-out
invariant-loop-out l =
    Turning l.wanted l.text l.initial.out (world l.initial.stage l.initial.bus l.initial.memory l.initial.ports) l.out l.memory l.ports
    l.stage l.bus l.rest l.used l.written

abbrev pub decreases-loop-out : goal.decreases-loop-out
decreases-loop-out l = length l.rest
