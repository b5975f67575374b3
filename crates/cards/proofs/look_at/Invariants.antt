-- What is driven so far, and what a look drives at the places left, are together what it drives at all four.
use Prim.Native.Nat.{◌≤◌, ◌+◌, ◌^◌}
use mathlib.Core.Path.{◌≡◌}
use Rattle.lines.specs.Look.{look}
use Rattle.cards.proofs.look_at.Given as goal

abbrev pub invariant-loop-place : goal.invariant-loop-place
invariant-loop-place l =
    (l.driven + 2 ^ l.place ≤ 16) × (l.driven + look l.place l.number l.lines ≡ look 4 l.number l.lines)
