-- The lines so far are the OR of what the cards passed drive, and left are the contenders beyond these.
use Prim.Native.Nat.{◌/◌, ◌^◌}
use mathlib.Core.Path.{◌≡◌}
use mathlib.Core.Bool.{cond}
use lib.ListN.{get_or}
use Rattle.words.specs.Below.{or_below}
use Rattle.cards.specs.Cards.{card_in}
use Rattle.bus.proofs.state.Bus.lines.Given as goal

abbrev pub invariant-loop-level : goal.invariant-loop-level
invariant-loop-level l =
    (l.left ≡ l.fn.self.contenders / 2 ^ l.level-index)
    × (l.lines ≡ or_below (λ q. cond (card_in l.fn.self.contenders q) (get_or l.fn.self.driven q 0) 0) l.level-index)
