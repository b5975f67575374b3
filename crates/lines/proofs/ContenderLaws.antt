-- What is asked of every contender, and what goes by whether a card contends.
use mathlib.Core.Path.{◌≡◌, refl}
use mathlib.Core.Bool.{Bool, true, false}
use Prim.Native.Nat.{ℕ, ◌<◌}
use Rattle.words.proofs.TestLaws.{then_of, of_then}
use Rattle.words.proofs.BelowLaws.{all_at, all_of}
use Rattle.lines.specs.Arbitration.{Arbitration, Contender, every_contender}
use Rattle.lines.specs.Promises.{EveryContender}

pub every_contender_holds : EveryContender
unfolding every_contender
every_contender_holds a test = (
  λ e q k. then_of (a.contends q) (test q) (all_at _ a.places e q k.present) k.contending,
  λ each.
      all_of _ a.places (λ q h. of_then (a.contends q) (test q) (λ c. each q record { present = h; contending = c })),
)

-- what holds of a contender, and of a card that doesn't contend, holds of the card at any place
pub by_contending : (a : Arbitration) (P : Bool → Type 0) (q : ℕ) → q < a.places → (Contender a q → P true) → P false → P (a.contends q)
by_contending a P q h contender idle = go (a.contends q) refl
  where
    go : (b : Bool) → a.contends q ≡ b → P b
    go true e = contender record { present = h; contending = e }
    go false e = idle
