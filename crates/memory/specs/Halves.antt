-- A word's datum and its two bytes: the even-addressed one goes by ED and the odd-addressed one by OD (000, 2.6.3), and in the datum the first is
-- the high half (01, "Bytes, words, status", house; the standard calls neither byte high).
use Rattle.std.specs.Prelude.{ℕ, ◌+◌, ◌*◌, ◌/◌, ◌%◌}

-- what ED, the DO lines, carry
abbrev pub even_half : ℕ → ℕ
even_half datum = datum / 0x100

-- what OD, the DI lines, carry
abbrev pub odd_half : ℕ → ℕ
odd_half datum = datum % 0x100

abbrev pub word_of : ℕ → ℕ → ℕ
word_of even odd = even * 0x100 + odd
