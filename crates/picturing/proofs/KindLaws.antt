-- A cycle has a strobe, and no other event has.
use mathlib.Core.Path.{◌≡◌, refl}
use mathlib.Core.Bool.{false, ◌||◌}
use Prim.Native.Nat.{ℕ, ◌<◌, ◌≤◌}
use native.Mathlib.Omega.{arith}
use lib.Dec.{eqb}
use borrow.Author.Tests.{ne_eqb}
use Rattle.std.proofs.Common.{◌⊎◌, inl, inr}
use Rattle.words.specs.Among.{is_among}
use Rattle.phases.specs.Kind.{is_of_memory, is_of_ports}
use Rattle.phases.specs.Kinds.{number_of_kind}
use Rattle.phases.specs.declared.kinds.Kind.{Kind}
use Rattle.phases.specs.declared.kinds.Kind.TheVariants as The
use Rattle.pins.specs.Moments.{has_strobe}

pub cycle_has_strobe : (kind : Kind) → (is_of_memory (number_of_kind kind) || is_of_ports (number_of_kind kind)) ≡ has_strobe (number_of_kind kind)
unfolding is_among
cycle_has_strobe The.Request = refl
cycle_has_strobe The.Look = refl
cycle_has_strobe The.Acknowledge = refl
cycle_has_strobe The.BeginTransferOne = refl
cycle_has_strobe The.TakeBus = refl
cycle_has_strobe The.ByteRead = refl
cycle_has_strobe The.OpcodeFetch = refl
cycle_has_strobe The.ByteWrite = refl
cycle_has_strobe The.WordRead = refl
cycle_has_strobe The.WordWrite = refl
cycle_has_strobe The.Input = refl
cycle_has_strobe The.Output = refl
cycle_has_strobe The.BeginTransferTwo = refl
cycle_has_strobe The.GiveBack = refl
cycle_has_strobe The.Reset = refl

-- nor has a number that is no kind's
pub none_has_strobe : (n : ℕ) → (n < 1) ⊎ (15 < n) → has_strobe n ≡ false
unfolding is_among
none_has_strobe n h =
    rw (other 6 (omega arith), other 7 (omega arith), other 9 (omega arith), other 11 (omega arith)) (
    rw (other 8 (omega arith), other 10 (omega arith), other 12 (omega arith)) refl)
  where
    other : (k : ℕ) → (1 ≤ k) × (k ≤ 15) → eqb n k ≡ false
    other k within = ne_eqb n k (λ e. apart h e)
      where
        apart : (n < 1) ⊎ (15 < n) → n ≡ k → ⊥
        apart (inl below) e = omega arith
        apart (inr above) e = omega arith
