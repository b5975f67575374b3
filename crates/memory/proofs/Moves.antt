-- What a cycle moves: where there is a word and where there is none, and that slaves differ in cycles alone.
use mathlib.Core.Path.{◌≡◌, refl, sym, ◌∙◌}
use mathlib.Core.Bool.{true, false}
use mathlib.Core.List.{List}
use Prim.Native.Nat.{ℕ}
use native.Mathlib.Omega.{arith}
use lib.ListN.{length}
use lib.Seq.{set_out}
use borrow.Author.Tests.{lt-ltb, le-ltb}
use Rattle.memory.specs.Moved.{Moved}
use Rattle.memory.specs.Cycles.{byte_read, byte_write, has_word}
use Rattle.memory.specs.Promises.{DatumHasItsHalves, ByteMoves, WordMoves, SameBytes, SameDatum}
use Rattle.memory.specs.Promises.{NoWord, OddAddress, WordPastTheEnd, BytePastTheEnd}
use Rattle.memory.proofs.WordLaws.{word_lies, by_word, word_read_is, word_write_is, after_word_is}
use Rattle.memory.proofs.WordLaws.{no_word_read, no_word_write, no_word_after}

pub datum_has_its_halves : DatumHasItsHalves
datum_has_its_halves even odd h = (omega arith, omega arith)

pub byte_moves : ByteMoves
unfolding byte_read byte_write
byte_moves m a h = (rw (lt-ltb a (length m) h), λ b. rw (lt-ltb a (length m) h))

pub word_moves : WordMoves
word_moves s m a h = (word_read_is m a s h, λ v. word_write_is m a s v h)

-- ---- Nothing there

no_word : (m : List ℕ) (a : ℕ) → (has_word m a ≡ true → ⊥) → NoWord m a
no_word m a never =
    let h : has_word m a ≡ false = by_word m a (λ t. absurd (never t)) (λ f. f) in
    record { read = λ s. no_word_read m a s h; write = λ s v. no_word_write m a s v h; unchanged = λ s v. no_word_after m a s v h }

pub odd_address : OddAddress
odd_address m a odd = no_word m a (λ h. omega (arith, ((word_lies m a).0 h).0))

pub word_past_the_end : WordPastTheEnd
word_past_the_end m a past = no_word m a (λ h. omega (arith, ((word_lies m a).0 h).1))

pub byte_past_the_end : BytePastTheEnd
unfolding byte_read byte_write
byte_past_the_end m a past = (rw (le-ltb a (length m) past), λ b. (rw (le-ltb a (length m) past), set_out m a b past))

-- ---- Whichever slaves

pub same_bytes : SameBytes
same_bytes s t m a v =
    by_word m a
    (λ h. after_word_is m a s v h ∙ sym (after_word_is m a t v h))
    (λ h. no_word_after m a s v h ∙ sym (no_word_after m a t v h))

-- two answers of which equations are known hold the same datum where those do
alike : {p q x y : Moved} → p ≡ x → q ≡ y → x.datum ≡ y.datum → p.datum ≡ q.datum
alike e f same = cc

pub same_datum : SameDatum
same_datum s t m a = (
  by_word m a
      (λ h. alike (word_read_is m a s h) (word_read_is m a t h) refl)
      (λ h. alike (no_word_read m a s h) (no_word_read m a t h) refl),
  λ v.
      by_word m a
      (λ h. alike (word_write_is m a s v h) (word_write_is m a t v h) refl)
      (λ h. alike (no_word_write m a s v h) (no_word_write m a t v h) refl),
)
