-- What is held is counted, and brought down.
use mathlib.Core.Path.{◌≡◌, ap, ◌∙◌}
use Prim.Native.Nat.{ℕ, ◌+◌, ◌-◌}
use native.Mathlib.Omega.{arith}
use lib.ListN.{drop}
use lib.Seq.{paste}
use Rattle.session.proofs.CallLaws.{held_home}
use Rattle.feeding.proofs.holding.hold.Goals as goal

pub returns : goal.returns
returns c =
    let from = c.args.from in
    let text = c.args.text.now in
    let count = c.held_count-count.result in
    let so_many : from + count - from ≡ count = omega arith in
    let hands = held_home text from c.args.filled count c.requires.from_le_filled c.requires.filled_in_bounds c.held_count-count.ensures
    c.copy_within.new.self (c.copy_within.ensures.after ∙ ap (λ (n : ℕ). paste text 0 (drop from text) n) so_many) in
    record { held = hands.0; left = hands.1 }
