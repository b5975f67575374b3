-- Settled levels are unique: each contender drives what its look at the highest contender's number gives.
use mathlib.Core.Path.{◌≡◌, sym, ap, ◌∙◌}
use mathlib.Core.Logic.{◌⊎◌, inl, inr}
use mathlib.Core.Bool.{true, false}
use mathlib.Core.List.{List}
use Prim.Native.Nat.{ℕ, ◌<◌}
use native.Mathlib.Omega.{arith}
use lib.ListN.{length, get_or}
use lib.Seq.{ext_get_or}
use Rattle.words.proofs.TestLaws.{true_or_false}
use Rattle.lines.specs.Look.{look}
use Rattle.lines.specs.Arbitration.{shown, looked, settled}
use Rattle.lines.specs.Promises.{SettledLevelUnique, SettledListUnique}
use Rattle.lines.proofs.HighestLaws.{highest_exists}
use Rattle.lines.proofs.Settling.{settled_at, settled_show_highest}

pub settled_level_unique : SettledLevelUnique
unfolding looked
settled_level_unique a fit l m el em q k =
    let best = highest_exists a q k in
    let shows : (x : List ℕ) → settled a x ≡ true → shown a x ≡ a.number best.0 = settled_show_highest a fit best.0 best.1 in
    sym (settled_at a l el q k)
    ∙ ap (look a.width (a.number q)) (shows l el ∙ sym (shows m em))
    ∙ settled_at a m em q k

pub settled_list_unique : SettledListUnique
settled_list_unique a fit l m sl sm idle el em = ext_get_or 0 l m (sl ∙ sym sm) (λ q h. go q h (true_or_false (a.contends q)))
  where
    go : (q : ℕ) → q < length l → (a.contends q ≡ true) ⊎ (a.contends q ≡ false) → get_or l q 0 ≡ get_or m q 0
    go q h (inl t) = settled_level_unique a fit l m el em q record { present = omega arith; contending = t }
    go q h (inr f) = idle q f
