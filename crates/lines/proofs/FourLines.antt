-- The four lines, as an instance of any number of lines.
use mathlib.Core.Path.{refl}
use mathlib.Core.List.{[], ◌∷◌}
use Prim.Native.Nat.{suc-le-suc}
use Rattle.lines.specs.Arbitration.{four_lines, are_rounds}
use Rattle.lines.specs.Promises.{FourRoundsSettle, FourHighestUnique}
use Rattle.lines.proofs.HighestLaws.{highest_unique}
use Rattle.lines.proofs.NumberedCards.{by_number_holds}
use Rattle.lines.proofs.Settling.{rounds_settle}

pub four_rounds_settle : FourRoundsSettle
unfolding are_rounds
four_rounds_settle contends m best levels size below r₁ r₂ r₃ r₄ e₁ e₂ e₃ e₄ =
    rounds_settle (four_lines contends) (by_number_holds 4 contends).0 m best levels
    record { size = size; below = λ q k. suc-le-suc (below q k.present k.contending) }
    (r₁ ∷ r₂ ∷ r₃ ∷ r₄ ∷ [])
    refl
    (rw (e₁, e₂, e₃, e₄))

pub four_highest_unique : FourHighestUnique
four_highest_unique contends = highest_unique (four_lines contends) (by_number_holds 4 contends).1
