-- What was written reads back, by the same kind of cycle or by another.
use mathlib.Core.Path.{◌≡◌, sym, ap, ap₂, ◌∙◌}
use mathlib.Core.Logic.{⊎_elim}
use mathlib.Core.Bool.{true, false}
use mathlib.Core.List.{List}
use Prim.Native.Nat.{ℕ, ◌+◌, ◌<◌}
use native.Mathlib.Omega.{arith}
use lib.Dec.{ltb}
use lib.ListN.{length, get_or, set, length-set}
use lib.Seq.{get_or-set_same, get_or-set_other}
use borrow.Author.Tests.{ltb-true}
use Rattle.words.proofs.TestLaws.{true_or_false}
use Rattle.memory.specs.Halves.{even_half, odd_half, word_of}
use Rattle.memory.specs.Cycles.{in_one_cycle, byte_read, byte_write, word_fits, word_read}
use Rattle.memory.specs.Promises.{in_word_cycles, ByteReadsBack, WordReadsBack, WordReadByBytes, BytesReadAsWord}
use Rattle.memory.proofs.WordLaws.{halves_make_the_datum, word_lies, by_word, word_read_is, word_write_is, after_word_is}
use Rattle.memory.proofs.WordLaws.{no_word_read, no_word_write, no_word_after}
use Rattle.memory.proofs.Moves.{byte_moves}

pub byte_reads_back : ByteReadsBack
unfolding byte_read byte_write
byte_reads_back m a b =
    rw length-set
    (⊎_elim
    (λ (t : ltb a (length m) ≡ true). rw t (ap in_one_cycle (get_or-set_same m a b 0 (ltb-true a (length m) t))))
    (λ (f : ltb a (length m) ≡ false). rw f)
    (true_or_false (ltb a (length m))))

-- Two bytes set at a and after it: both are there, and so is the room for them.
module _ (m : List ℕ) (a x y : ℕ) (within : a + 1 < length m) where
  size_set : length (set (set m a x) (a + 1) y) ≡ length m
  size_set = length-set (set m a x) (a + 1) y ∙ length-set m a x

  even_set : get_or (set (set m a x) (a + 1) y) a 0 ≡ x
  even_set = get_or-set_other (set m a x) (a + 1) a y 0 (λ e. omega arith) ∙ get_or-set_same m a x 0 (omega arith)

  odd_set : get_or (set (set m a x) (a + 1) y) (a + 1) 0 ≡ y
  odd_set = get_or-set_same (set m a x) (a + 1) y 0 (omega (arith, length-set m a x))

pub bytes_read_as_word : BytesReadAsWord
bytes_read_as_word s m a x y h =
    let within : a + 1 < length m = ((word_lies m a).0 h).1 in
    word_read_is (set (set m a x) (a + 1) y) a s (ap (λ (n : ℕ). word_fits n a) (size_set m a x y within) ∙ h)
    ∙ ap₂ (λ (p q : ℕ). in_word_cycles s (word_of p q)) (even_set m a x y within) (odd_set m a x y within)

pub word_reads_back : WordReadsBack
word_reads_back w r m a v =
    by_word m a
    (λ h.
    ap (λ (l : List ℕ). word_read r l a) (after_word_is m a w v h)
    ∙ bytes_read_as_word r m a (even_half v) (odd_half v) h
    ∙ ap (in_word_cycles r) (halves_make_the_datum v)
    ∙ sym (word_write_is m a r v h))
    (λ h. ap (λ (l : List ℕ). word_read r l a) (no_word_after m a w v h) ∙ no_word_read m a r h ∙ sym (no_word_write m a r v h))

pub word_read_by_bytes : WordReadByBytes
word_read_by_bytes s m a v h =
    let within : a + 1 < length m = ((word_lies m a).0 h).1 in
    let after : List ℕ = set (set m a (even_half v)) (a + 1) (odd_half v) in
    let size : length after ≡ length m = size_set m a (even_half v) (odd_half v) within in (
      ap (λ (l : List ℕ). byte_read l a) (after_word_is m a s v h)
          ∙ (byte_moves after a (omega arith)).0
          ∙ ap in_one_cycle (even_set m a (even_half v) (odd_half v) within),
      ap (λ (l : List ℕ). byte_read l (a + 1)) (after_word_is m a s v h)
          ∙ (byte_moves after (a + 1) (omega arith)).0
          ∙ ap in_one_cycle (odd_set m a (even_half v) (odd_half v) within),
    )
