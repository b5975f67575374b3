-- What a write keeps: every other byte, and the length.
use mathlib.Core.Path.{◌≡◌, refl, sym, ◌∙◌, subst}
use mathlib.Core.Logic.{⊎_elim}
use mathlib.Core.List.{List}
use Prim.Native.Nat.{ℕ, ◌+◌}
use native.Mathlib.Omega.{arith}
use lib.ListN.{set, length-set}
use lib.Seq.{get_or-set_other}
use Rattle.memory.specs.Halves.{even_half, odd_half}
use Rattle.memory.specs.Promises.{SameOutside, ByteWriteKeeps, WordWriteKeeps, WordOfItsPair}
use Rattle.memory.proofs.WordLaws.{by_word, after_word_is, no_word_after}
use Rattle.memory.proofs.PairLaws.{pair_read, pair_write, pair_home}

-- ---- Every other byte

-- the length and every other byte of what a write left, from those of an equal list
keeps_by : {a n : ℕ} {m l after : List ℕ} → after ≡ l → SameOutside a n m l → SameOutside a n m after
keeps_by {a} {n} {m} e kept = subst (SameOutside a n m) (sym e) kept

pub byte_write_keeps : ByteWriteKeeps
byte_write_keeps m a b = record {
  size = length-set m a b;
  others = λ k far. get_or-set_other m a k b 0 (λ e. ⊎_elim (λ below. omega arith) (λ above. omega arith) far);
}

pub word_write_keeps : WordWriteKeeps
word_write_keeps s m a v =
    by_word m a
    (λ h.
    keeps_by (after_word_is m a s v h)
    record {
      size = length-set (set m a (even_half v)) (a + 1) (odd_half v) ∙ length-set m a (even_half v);
      others = λ k far.
          get_or-set_other (set m a (even_half v)) (a + 1) k (odd_half v) 0 (λ e. ⊎_elim (λ below. omega arith) (λ above. omega arith) far)
          ∙ get_or-set_other m a k (even_half v) 0 (λ e. ⊎_elim (λ below. omega arith) (λ above. omega arith) far);
    })
    (λ h. keeps_by (no_word_after m a s v h) record { size = refl; others = λ k far. refl })

pub word_of_its_pair : WordOfItsPair
word_of_its_pair s m a h = (pair_read s m a h, λ v. (pair_write s m a h v, pair_home s m a h v))
