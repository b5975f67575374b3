-- What a cycle event moves in a memory of any length, and what it leaves there (000, 2.6; 01, "Bytes, words, status").
use Rattle.std.specs.Prelude.{ℕ, ◌+◌, ◌%◌, Bool, cond, ◌&&◌, List, [], ◌∷◌, ◌++◌, eqb, ltb, length, get_or, set, take, drop}
use Rattle.memory.specs.Moved.{Moved}
use Rattle.memory.specs.declared.Slave.{Slave}
use Rattle.memory.specs.Halves.{even_half, odd_half, word_of}
use Rattle.memory.specs.Slave.{asserts_sixtn}

-- one bus cycle moved this datum
abbrev pub in_one_cycle : ℕ → Moved
in_one_cycle datum = record { datum = datum; cycles = 1 }

-- no cycle took place
abbrev pub nothing : Moved
nothing = record { datum = 0; cycles = 0 }

-- ---- Byte cycles (000, 2.6.2): beyond the memory's end none takes place.

unfoldable pub byte_read : List ℕ → ℕ → Moved
byte_read m a = cond (ltb a (length m)) (in_one_cycle (get_or m a 0)) nothing

unfoldable pub byte_write : List ℕ → ℕ → ℕ → Moved
byte_write m a b = cond (ltb a (length m)) (in_one_cycle b) nothing

-- beyond the end set changes nothing
abbrev pub after_byte_write : List ℕ → ℕ → ℕ → List ℕ
after_byte_write m a b = set m a b

-- ---- A word in one cycle, over the ganged buses: both bytes at once (000, 2.6.3)

-- the two bytes from an address on
abbrev pub pair_at : List ℕ → ℕ → List ℕ
pair_at m a = take 2 (drop a m)

abbrev pub ganged_read : List ℕ → ℕ → Moved
ganged_read m a = in_one_cycle (word_of (get_or (pair_at m a) 0 0) (get_or (pair_at m a) 1 0))

abbrev pub ganged_write : ℕ → Moved
ganged_write datum = in_one_cycle datum

abbrev pub after_ganged_write : List ℕ → ℕ → ℕ → List ℕ
after_ganged_write m a datum = take a m ++ (even_half datum ∷ odd_half datum ∷ []) ++ drop (a + 2) m

-- ---- A word byte by byte: two byte cycles (000, 2.6.5.1), the even address first (01, "Bytes, words, status")

-- what two byte cycles moved, as one word, and how many bus cycles both took
abbrev pub together : Moved → Moved → Moved
together even odd = record { datum = word_of even.datum odd.datum; cycles = even.cycles + odd.cycles }

abbrev pub serial_read : List ℕ → ℕ → Moved
serial_read m a = together (byte_read m a) (byte_read m (a + 1))

abbrev pub serial_write : List ℕ → ℕ → ℕ → Moved
serial_write m a datum =
    together (byte_write m a (even_half datum)) (byte_write (after_byte_write m a (even_half datum)) (a + 1) (odd_half datum))

abbrev pub after_serial_write : List ℕ → ℕ → ℕ → List ℕ
after_serial_write m a datum = after_byte_write (after_byte_write m a (even_half datum)) (a + 1) (odd_half datum)

-- ---- A word where there is one, the way its slave answers: in one cycle where it asserts SIXTN (000, 2.6.5)

-- the address is even, and both bytes lie within so many
abbrev pub word_fits : ℕ → ℕ → Bool
word_fits size a = eqb (a % 2) 0 && ltb (a + 1) size

abbrev pub has_word : List ℕ → ℕ → Bool
has_word m a = word_fits (length m) a

unfoldable pub word_read : Slave → List ℕ → ℕ → Moved
word_read s m a = cond (has_word m a) (cond (asserts_sixtn s) (ganged_read m a) (serial_read m a)) nothing

unfoldable pub word_write : Slave → List ℕ → ℕ → ℕ → Moved
word_write s m a datum = cond (has_word m a) (cond (asserts_sixtn s) (ganged_write datum) (serial_write m a datum)) nothing

unfoldable pub after_word_write : Slave → List ℕ → ℕ → ℕ → List ℕ
after_word_write s m a datum = cond (has_word m a) (cond (asserts_sixtn s) (after_ganged_write m a datum) (after_serial_write m a datum)) m
