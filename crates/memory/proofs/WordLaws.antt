-- Where there is a word, both ways of moving it come to the same: what is read, answered and left there, written out once for either page.
use mathlib.Core.Path.{◌≡◌, refl, sym, ap, ap₂, ◌∙◌}
use mathlib.Core.Logic.{⊎_elim}
use mathlib.Core.Bool.{Bool, true, false, cond, and-eq-true_iff}
use mathlib.Core.List.{List, [], ◌∷◌}
use Prim.Native.Nat.{ℕ, ◌+◌, ◌%◌, ◌<◌, ◌≤◌}
use native.Mathlib.Nat.{add-zero}
use native.Mathlib.Numerals.{add-one}
use native.Mathlib.Omega.{arith}
use lib.Dec.{eqb, ltb, lit<}
use lib.ListN.{length, get_or, set, drop, length-set}
use lib.Seq.{get_or-take, get_or-drop, sets-eq}
use borrow.Author.Tests.{ltb-true, eqb-true, lt-ltb, eq-eqb}
use Rattle.words.proofs.TestLaws.{true_or_false}
use Rattle.memory.specs.declared.Slave.{Slave}
use Rattle.memory.specs.Halves.{even_half, odd_half, word_of}
use Rattle.memory.specs.Slave.{eight_bit_page, slave, asserts_sixtn}
use Rattle.memory.specs.Cycles.{in_one_cycle, nothing, byte_read, byte_write, pair_at, ganged_read, ganged_write, after_ganged_write}
use Rattle.memory.specs.Cycles.{serial_read, serial_write, after_serial_write, word_fits, has_word, word_read, word_write, after_word_write}
use Rattle.memory.specs.Promises.{HalvesMakeTheDatum, WordLies, in_word_cycles}

pub halves_make_the_datum : HalvesMakeTheDatum
halves_make_the_datum v = omega arith

pub word_lies : WordLies
word_lies m a =
    let both = and-eq-true_iff (eqb (a % 2) 0) (ltb (a + 1) (length m)) in (
      λ h. (eqb-true (a % 2) 0 (both.0 h).0, ltb-true (a + 1) (length m) (both.0 h).1),
      λ h. both.1 (eq-eqb (a % 2) 0 h.0, lt-ltb (a + 1) (length m) h.1),
    )

-- the word's two bytes end within the memory
pub word_ends : (size a : ℕ) → word_fits size a ≡ true → a + 2 ≤ size
word_ends size a h = omega (arith, ltb-true (a + 1) size ((and-eq-true_iff (eqb (a % 2) 0) (ltb (a + 1) size)).0 h).1)

-- there is a word at a, or there is none
pub by_word : {A : Type 0} (m : List ℕ) (a : ℕ) → (has_word m a ≡ true → A) → (has_word m a ≡ false → A) → A
by_word m a there none = ⊎_elim there none (true_or_false (has_word m a))

-- an entry of the pair is an entry of the memory
pub pair_entry : (m : List ℕ) (a i : ℕ) → i < 2 → get_or (pair_at m a) i 0 ≡ get_or m (a + i) 0
pair_entry m a i h = get_or-take 2 (drop a m) i 0 h ∙ get_or-drop a m i 0

module _ (m : List ℕ) (a : ℕ) where
  both_within : has_word m a ≡ true → (ltb a (length m) ≡ true) × (ltb (a + 1) (length m) ≡ true)
  both_within h =
      (lt-ltb a (length m) (omega (arith, word_ends (length m) a h)), lt-ltb (a + 1) (length m) ((word_lies m a).0 h).1)

  pub word_read_is : (s : Slave) → has_word m a ≡ true → word_read s m a ≡ in_word_cycles s (word_of (get_or m a 0) (get_or m (a + 1) 0))
  unfolding byte_read word_read
  word_read_is s h = rw h (either (asserts_sixtn s))
    where
      either : (b : Bool) → cond b (ganged_read m a) (serial_read m a) ≡ record { datum = word_of (get_or m a 0) (get_or m (a + 1) 0); cycles = cond b 1 2 }
      either true =
          ap₂ (λ (x y : ℕ). in_one_cycle (word_of x y))
          (pair_entry m a 0 (lit< tt) ∙ ap (λ (k : ℕ). get_or m k 0) (add-zero a))
          (pair_entry m a 1 (lit< tt))
      either false = rw ((both_within h).0, (both_within h).1)

  pub word_write_is : (s : Slave) (v : ℕ) → has_word m a ≡ true → word_write s m a v ≡ in_word_cycles s v
  unfolding byte_write word_write
  word_write_is s v h = rw h (either (asserts_sixtn s))
    where
      either : (b : Bool) → cond b (ganged_write v) (serial_write m a v) ≡ record { datum = v; cycles = cond b 1 2 }
      either true = refl
      either false =
          rw ((both_within h).0, length-set, (both_within h).1)
          (ap (λ (n : ℕ). record { datum = n; cycles = 2 }) (halves_make_the_datum v))

  -- one cycle over the ganged buses leaves what two byte cycles leave
  ganged_is_serial : (v : ℕ) → has_word m a ≡ true → after_ganged_write m a v ≡ set (set m a (even_half v)) (a + 1) (odd_half v)
  ganged_is_serial v h =
      sym (sets-eq (even_half v ∷ odd_half v ∷ []) m a (word_ends (length m) a h))
      ∙ ap (λ (k : ℕ). set (set m a (even_half v)) k (odd_half v)) (sym (add-one a))

  pub after_word_is : (s : Slave) (v : ℕ) → has_word m a ≡ true → after_word_write s m a v ≡ set (set m a (even_half v)) (a + 1) (odd_half v)
  unfolding after_word_write
  after_word_is s v h = rw h (either (asserts_sixtn s))
    where
      either : (b : Bool) → cond b (after_ganged_write m a v) (after_serial_write m a v) ≡ set (set m a (even_half v)) (a + 1) (odd_half v)
      either true = ganged_is_serial v h
      either false = refl

  -- on a page of eight bits it is two byte cycles
  pub word_read_serial : has_word m a ≡ true → word_read (slave eight_bit_page) m a ≡ serial_read m a
  unfolding word_read
  word_read_serial h = rw h

  pub word_write_serial : (v : ℕ) → has_word m a ≡ true → word_write (slave eight_bit_page) m a v ≡ serial_write m a v
  unfolding word_write
  word_write_serial v h = rw h

  -- a slave is known by SIXTN alone
  pub word_read_alike : (s t : Slave) → asserts_sixtn s ≡ asserts_sixtn t → word_read s m a ≡ word_read t m a
  unfolding word_read
  word_read_alike s t same = rw same

  pub word_write_alike : (s t : Slave) (v : ℕ) → asserts_sixtn s ≡ asserts_sixtn t → word_write s m a v ≡ word_write t m a v
  unfolding word_write
  word_write_alike s t v same = rw same

  -- where there is none, nothing is moved and nothing changes
  pub no_word_read : (s : Slave) → has_word m a ≡ false → word_read s m a ≡ nothing
  unfolding word_read
  no_word_read s h = rw h

  pub no_word_write : (s : Slave) (v : ℕ) → has_word m a ≡ false → word_write s m a v ≡ nothing
  unfolding word_write
  no_word_write s v h = rw h

  pub no_word_after : (s : Slave) (v : ℕ) → has_word m a ≡ false → after_word_write s m a v ≡ m
  unfolding after_word_write
  no_word_after s v h = rw h

  -- either way leaves what one cycle over the ganged buses leaves
  pub after_word_ganged : (s : Slave) (v : ℕ) → has_word m a ≡ true → after_word_write s m a v ≡ after_ganged_write m a v
  after_word_ganged s v h = after_word_is s v h ∙ sym (ganged_is_serial v h)
