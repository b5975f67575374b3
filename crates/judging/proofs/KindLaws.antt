-- Which numbers are a kind's, as the event table has them.
use Prim.Native.Nat.{ℕ, ◌<◌}
use mathlib.Core.Path.{◌≡◌, refl, ◌∙◌}
use mathlib.Core.Logic.{◌⊎◌, ⊎_elim}
use mathlib.Core.Bool.{true, false}
use native.Mathlib.Omega.{arith}
use borrow.Author.Tests.{le-leb, lt-leb}
use Rattle.words.specs.Among.{has_beside}
use Rattle.phases.specs.Kind as Number
use Rattle.phases.specs.Kinds.{number_of_kind}
use Rattle.phases.specs.declared.kinds.Kind.{Kind}
use Rattle.judgement.specs.Table.{has_row}
use Rattle.judgement.proofs.TableLaws.{each_kind_has_its_row}

pub each_has_row : (kind : Kind) → has_row (number_of_kind kind) ≡ true
unfolding has_beside
each_has_row Kind.Request = refl
each_has_row Kind.Look = refl
each_has_row Kind.Acknowledge = refl
each_has_row Kind.BeginTransferOne = refl
each_has_row Kind.TakeBus = refl
each_has_row Kind.ByteRead = refl
each_has_row Kind.OpcodeFetch = refl
each_has_row Kind.ByteWrite = refl
each_has_row Kind.WordRead = refl
each_has_row Kind.WordWrite = refl
each_has_row Kind.Input = refl
each_has_row Kind.Output = refl
each_has_row Kind.BeginTransferTwo = refl
each_has_row Kind.GiveBack = refl
each_has_row Kind.Reset = refl

pub no_other_has : (number : ℕ) → (number < Number.request) ⊎ (Number.last < number) → has_row number ≡ false
no_other_has number =
    ⊎_elim (λ low. each_kind_has_its_row number ∙ rw (lt-leb Number.request number low))
    (λ high. each_kind_has_its_row number ∙ rw (le-leb Number.request number (omega (arith, high)), lt-leb number Number.last high))
