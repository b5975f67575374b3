-- What is promised of byte and word cycles, for a memory of any length. The proof of each stands in proofs/ under its name in lower case, with
-- underscores: that of SameBytes is same_bytes.
use Rattle.std.specs.Prelude.{ℕ, ◌+◌, ◌%◌, ◌<◌, ◌≤◌, ◌≡◌, ◌⊎◌, ◌↔◌, true, cond, List, ◌++◌, eqb, length, get_or, take, drop}
use Rattle.memory.specs.Moved.{Moved}
use Rattle.memory.specs.declared.Slave.{Slave}
use Rattle.memory.specs.Halves.{even_half, odd_half, word_of}
use Rattle.memory.specs.Cycles.{
  in_one_cycle,
  nothing,
  byte_read,
  byte_write,
  after_byte_write,
  pair_at,
  has_word,
  word_read,
  word_write,
  after_word_write,
}

-- ---- The datum's halves

abbrev pub HalvesMakeTheDatum : Type 0
HalvesMakeTheDatum = (datum : ℕ) → word_of (even_half datum) (odd_half datum) ≡ datum

abbrev pub DatumHasItsHalves : Type 0
DatumHasItsHalves = (even odd : ℕ) → odd < 0x100 → (even_half (word_of even odd) ≡ even) × (odd_half (word_of even odd) ≡ odd)

-- ---- Where a byte is, where a word is, and how many cycles each takes

-- A byte of the memory is moved in one cycle, and a write answers what it wrote.
abbrev pub ByteMoves : Type 0
ByteMoves =
    (m : List ℕ) (a : ℕ) → a < length m
    → (byte_read m a ≡ in_one_cycle (get_or m a 0)) × ((b : ℕ) → byte_write m a b ≡ in_one_cycle b)

abbrev pub BytePastTheEnd : Type 0
BytePastTheEnd =
    (m : List ℕ) (a : ℕ) → length m ≤ a
    → (byte_read m a ≡ nothing) × ((b : ℕ) → (byte_write m a b ≡ nothing) × (after_byte_write m a b ≡ m))

-- A word is found exactly at an even address with both bytes in the memory.
abbrev pub WordLies : Type 0
WordLies = (m : List ℕ) (a : ℕ) → (has_word m a ≡ true) ↔ ((a % 2 ≡ 0) × (a + 1 < length m))

-- one cycle on a page of code 2, sixteen bits, two on another
abbrev pub in_word_cycles : Slave → ℕ → Moved
in_word_cycles s datum = record { datum = datum; cycles = cond (eqb s.code 2) 1 2 }

-- There the even-addressed byte is read as the high half, a write answers what it wrote, and the page's code gives the cycles.
abbrev pub WordMoves : Type 0
WordMoves =
    (s : Slave) (m : List ℕ) (a : ℕ) → has_word m a ≡ true
    → (word_read s m a ≡ in_word_cycles s (word_of (get_or m a 0) (get_or m (a + 1) 0)))
    × ((datum : ℕ) → word_write s m a datum ≡ in_word_cycles s datum)

-- no cycle took place, and the memory is as it was
pub record NoWord (m : List ℕ) (a : ℕ) : Type 0 where
  pub read : (s : Slave) → word_read s m a ≡ nothing
  pub write : (s : Slave) (datum : ℕ) → word_write s m a datum ≡ nothing
  pub unchanged : (s : Slave) (datum : ℕ) → after_word_write s m a datum ≡ m

abbrev pub OddAddress : Type 0
OddAddress = (m : List ℕ) (a : ℕ) → a % 2 ≡ 1 → NoWord m a

abbrev pub WordPastTheEnd : Type 0
WordPastTheEnd = (m : List ℕ) (a : ℕ) → length m ≤ a + 1 → NoWord m a

-- ---- Whichever slaves: they differ in cycles alone, also where there is no word.

abbrev pub SameBytes : Type 0
SameBytes = (s t : Slave) (m : List ℕ) (a datum : ℕ) → after_word_write s m a datum ≡ after_word_write t m a datum

abbrev pub SameDatum : Type 0
SameDatum =
    (s t : Slave) (m : List ℕ) (a : ℕ)
    → ((word_read s m a).datum ≡ (word_read t m a).datum)
    × ((datum : ℕ) → (word_write s m a datum).datum ≡ (word_write t m a datum).datum)

-- ---- What a write leaves alone

-- after is as long as m and agrees with it but for n bytes from a on
pub record SameOutside (a n : ℕ) (m after : List ℕ) : Type 0 where
  pub size : length after ≡ length m
  pub others : (k : ℕ) → (k < a) ⊎ (a + n ≤ k) → get_or after k 0 ≡ get_or m k 0

abbrev pub ByteWriteKeeps : Type 0
ByteWriteKeeps = (m : List ℕ) (a b : ℕ) → SameOutside a 1 m (after_byte_write m a b)

abbrev pub WordWriteKeeps : Type 0
WordWriteKeeps = (s : Slave) (m : List ℕ) (a datum : ℕ) → SameOutside a 2 m (after_word_write s m a datum)

-- A word's cycle needs its two bytes and no others: it is the same on the pair alone, put back in its place.
abbrev pub WordOfItsPair : Type 0
WordOfItsPair =
    (s : Slave) (m : List ℕ) (a : ℕ) → has_word m a ≡ true
    → (word_read s (pair_at m a) 0 ≡ word_read s m a)
    × ((datum : ℕ)
    → (word_write s (pair_at m a) 0 datum ≡ word_write s m a datum)
    × (take a m ++ (after_word_write s (pair_at m a) 0 datum ++ drop (a + 2) m) ≡ after_word_write s m a datum))

-- ---- What was written reads back: a read brings what the write answered.

abbrev pub ByteReadsBack : Type 0
ByteReadsBack = (m : List ℕ) (a b : ℕ) → byte_read (after_byte_write m a b) a ≡ byte_write m a b

-- the write's way and the read's may be different ones; the cycles are those of the read's
abbrev pub WordReadsBack : Type 0
WordReadsBack = (wrote reads : Slave) (m : List ℕ) (a datum : ℕ) → word_read reads (after_word_write wrote m a datum) a ≡ word_write reads m a datum

-- A written word read by byte cycles: the high half is at the even address, the low half at the odd one.
abbrev pub WordReadByBytes : Type 0
WordReadByBytes =
    (s : Slave) (m : List ℕ) (a datum : ℕ) → has_word m a ≡ true
    → (byte_read (after_word_write s m a datum) a ≡ in_one_cycle (even_half datum))
    × (byte_read (after_word_write s m a datum) (a + 1) ≡ in_one_cycle (odd_half datum))

-- And two written bytes read by a word cycle.
abbrev pub BytesReadAsWord : Type 0
BytesReadAsWord =
    (s : Slave) (m : List ℕ) (a even odd : ℕ) → has_word m a ≡ true
    → word_read s (after_byte_write (after_byte_write m a even) (a + 1) odd) a ≡ in_word_cycles s (word_of even odd)
