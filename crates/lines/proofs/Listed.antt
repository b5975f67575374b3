-- The promises where a list names the contenders by their numbers: those for any arbitration, at this one.
use mathlib.Core.Path.{refl}
use mathlib.Core.Bool.{true≢false}
use mathlib.Core.List.{List, ◌∷◌}
use Prim.Native.Nat.{ℕ}
use native.Mathlib.Nat.{zero-lt-suc}
use lib.ListN.{length}
use Rattle.lines.specs.Arbitration.{by_list}
use Rattle.lines.specs.Promises.{
  NumbersFit,
  Distinct,
  DistinctBelow,
  ListedHighestExists,
  ListedHighestUnique,
  ListedRoundsSettle,
  ListedShowHighest,
  ListedSettledUnique,
}
use Rattle.lines.proofs.HighestLaws.{highest_exists, highest_unique}
use Rattle.lines.proofs.Settling.{rounds_settle, settled_show_highest}
use Rattle.lines.proofs.Unique.{settled_list_unique}

fit : (w : ℕ) (numbers : List ℕ) → DistinctBelow w numbers → NumbersFit (by_list w numbers)
fit w numbers d q k = d.below q k.present

apart : (w : ℕ) (numbers : List ℕ) → DistinctBelow w numbers → Distinct (by_list w numbers)
apart w numbers d q r kq kr = d.distinct q r kq.present kr.present

pub listed_highest_exists : ListedHighestExists
listed_highest_exists w number others =
    highest_exists (by_list w (number ∷ others)) 0 record { present = zero-lt-suc (length others); contending = refl }

pub listed_highest_unique : ListedHighestUnique
listed_highest_unique w numbers d = highest_unique (by_list w numbers) (apart w numbers d)

pub listed_rounds_settle : ListedRoundsSettle
listed_rounds_settle w numbers d p best levels r rounds count all after = (
  rounds_settle (by_list w numbers) (fit w numbers d) p best levels r rounds count all after,
  λ q h same. d.distinct q p h best.contender.present same,
)

pub listed_show_highest : ListedShowHighest
listed_show_highest w numbers d = settled_show_highest (by_list w numbers) (fit w numbers d)

pub listed_settled_unique : ListedSettledUnique
listed_settled_unique w numbers d l m sl sm =
    settled_list_unique (by_list w numbers) (fit w numbers d) l m sl sm (λ q idle. absurd (true≢false idle))
