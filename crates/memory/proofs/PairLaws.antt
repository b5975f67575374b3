-- A word seen through its pair: the two bytes that are lent hold the word, and when they are back the memory is as the word's cycle leaves it.
use mathlib.Core.Path.{◌≡◌, refl, sym, ap, ap₂, ◌∙◌}
use mathlib.Core.Bool.{true}
use mathlib.Core.List.{List, [], ◌∷◌, ◌++◌, append_assoc}
use Prim.Native.Nat.{ℕ, ◌+◌, ◌-◌, ◌/◌, ◌%◌, ◌<◌, ◌≤◌}
use native.Mathlib.Omega.{arith}
use lib.Dec.{lit<}
use lib.ListN.{length, get_or, take, drop, length-take, length-drop, drop_of_length-le}
use borrow.Rule.Slice.PartMut.{mid_of, put_mid, Post-is}
use Rattle.memory.specs.declared.Slave.{Slave}
use Rattle.memory.specs.Halves.{even_half, odd_half, word_of}
use Rattle.memory.specs.Cycles.{pair_at, has_word, word_read, word_write, after_word_write}
use Rattle.memory.specs.Promises.{in_word_cycles}
use Rattle.memory.proofs.WordLaws.{pair_entry, word_lies, word_ends, word_read_is, word_write_is, after_word_ganged}

-- a pair by itself, as the code is lent it: the word lies at its front, and both halves are all that a write leaves
module _ (pair : List ℕ) (two : length pair ≡ 2) where
  pub lent_has_word : has_word pair 0 ≡ true
  lent_has_word = (word_lies pair 0).1 (refl, omega (arith, two))

  pub lent_after : (s : Slave) (v : ℕ) → after_word_write s pair 0 v ≡ even_half v ∷ odd_half v ∷ []
  lent_after s v =
      after_word_ganged pair 0 s v lent_has_word
      ∙ ap (λ (l : List ℕ). even_half v ∷ odd_half v ∷ l) (drop_of_length-le pair {i = 2} (omega (arith, two)))

  -- the halves as the code has them
  pub lent_halves : (s : Slave) (v : ℕ) → v < 0x10000 → v / 0x100 % 0x100 ∷ v % 0x100 ∷ [] ≡ after_word_write s pair 0 v
  lent_halves s v fits =
      let high : v / 0x100 % 0x100 ≡ even_half v = omega (arith, fits) in
      ap (λ (x : ℕ). x ∷ odd_half v ∷ []) high ∙ sym (lent_after s v)

module _ (s : Slave) (m : List ℕ) (a : ℕ) (h : has_word m a ≡ true) where
  pub pair_size : length (pair_at m a) ≡ 2
  pair_size = omega (arith, length-take 2 (drop a m), length-drop a m, word_ends (length m) a h)

  pub pair_has_word : has_word (pair_at m a) 0 ≡ true
  pair_has_word = lent_has_word (pair_at m a) pair_size

  pub pair_read : word_read s (pair_at m a) 0 ≡ word_read s m a
  pair_read =
      word_read_is (pair_at m a) 0 s pair_has_word
      ∙ ap₂ (λ (x y : ℕ). in_word_cycles s (word_of x y))
      (pair_entry m a 0 (lit< tt) ∙ ap (λ (k : ℕ). get_or m k 0) (omega arith))
      (pair_entry m a 1 (lit< tt))
      ∙ sym (word_read_is m a s h)

  pub pair_write : (v : ℕ) → word_write s (pair_at m a) 0 v ≡ word_write s m a v
  pair_write v = word_write_is (pair_at m a) 0 s v pair_has_word ∙ sym (word_write_is m a s v h)

  pub pair_after : (v : ℕ) → after_word_write s (pair_at m a) 0 v ≡ even_half v ∷ odd_half v ∷ []
  pair_after v = lent_after (pair_at m a) pair_size s v

  pub pair_home : (v : ℕ) → take a m ++ (after_word_write s (pair_at m a) 0 v ++ drop (a + 2) m) ≡ after_word_write s m a v
  pair_home v =
      ap (λ (ys : List ℕ). take a m ++ (ys ++ drop (a + 2) m)) (pair_after v)
      ∙ sym (append_assoc (take a m) (even_half v ∷ odd_half v ∷ []) (drop (a + 2) m))
      ∙ sym (after_word_ganged m a s v h)

  -- the same of the part that the code lends, with the bounds as the code has them
  part_is_pair : mid_of a (a + 2 - a) m ≡ pair_at m a
  part_is_pair =
      let two : a + 2 - a ≡ 2 = omega arith in
      ap (λ (n : ℕ). take n (drop a m)) two

  pub part_read : word_read s (mid_of a (a + 2 - a) m) 0 ≡ word_read s m a
  part_read = ap (λ (l : List ℕ). word_read s l 0) part_is_pair ∙ pair_read

  pub part_write : (v : ℕ) → word_write s (mid_of a (a + 2 - a) m) 0 v ≡ word_write s m a v
  part_write v = ap (λ (l : List ℕ). word_write s l 0 v) part_is_pair ∙ pair_write v

  pub part_home : (v : ℕ) → put_mid a (a + 2 - a) m (after_word_write s (mid_of a (a + 2 - a) m) 0 v) ≡ after_word_write s m a v
  part_home v =
      ap₂ (λ (ys zs : List ℕ). take a m ++ (after_word_write s ys 0 v ++ zs)) part_is_pair (Post-is a (a + 2) m (omega arith)) ∙ pair_home v

-- the first two bytes of what is lent, which in the code is no longer
module _ (s : Slave) (lent pair : List ℕ) (enough : 2 ≤ length lent) (same : pair ≡ take 2 lent) where
  there : has_word lent 0 ≡ true
  there = (word_lies lent 0).1 (refl, omega (arith, enough))

  pub front_size : length pair ≡ 2
  front_size = ap length same ∙ pair_size s lent 0 there

  pub front_entry : (i : ℕ) → i < 2 → get_or pair i 0 ≡ get_or lent i 0
  front_entry i h =
      ap (λ (l : List ℕ). get_or l i 0) same ∙ pair_entry lent 0 i h ∙ ap (λ (k : ℕ). get_or lent k 0) (omega arith)

  pub front_read : word_read s pair 0 ≡ word_read s lent 0
  front_read = ap (λ (l : List ℕ). word_read s l 0) same ∙ pair_read s lent 0 there

  pub front_write : (v : ℕ) → word_write s pair 0 v ≡ word_write s lent 0 v
  front_write v = ap (λ (l : List ℕ). word_write s l 0 v) same ∙ pair_write s lent 0 there v

  pub front_home : (v : ℕ) → after_word_write s pair 0 v ++ drop 2 lent ≡ after_word_write s lent 0 v
  front_home v = ap (λ (l : List ℕ). after_word_write s l 0 v ++ drop 2 lent) same ∙ pair_home s lent 0 there v
