-- Cycles on five bytes: a word read at address 2 (01, "Marked for proof", M9), the same word written, and addresses where there is none.
use Rattle.std.specs.Prelude.{ℕ, ◌≡◌, List, [], ◌∷◌}
use Rattle.memory.specs.Slave.{slave}
use Rattle.memory.specs.Cycles.{nothing, byte_read, byte_write, after_byte_write, word_read, word_write, after_word_write}

-- 12h at address 2 and 34h at 3
abbrev pub holding : List ℕ
holding = 0xA0 ∷ 0xA1 ∷ 0x12 ∷ 0x34 ∷ 0xA4 ∷ []

-- other bytes there
abbrev pub other : List ℕ
other = 0xA0 ∷ 0xA1 ∷ 0xA2 ∷ 0xA3 ∷ 0xA4 ∷ []

pub record ReadAtTwo : Type 0 where
  pub eight_bits : word_read (slave 1) holding 2 ≡ record { datum = 0x1234; cycles = 2 }
  pub sixteen_bits : word_read (slave 2) holding 2 ≡ record { datum = 0x1234; cycles = 1 }
  pub even_byte : byte_read holding 2 ≡ record { datum = 0x12; cycles = 1 }
  pub odd_byte : byte_read holding 3 ≡ record { datum = 0x34; cycles = 1 }

pub record WrittenAtTwo : Type 0 where
  pub eight_bits : word_write (slave 1) other 2 0x1234 ≡ record { datum = 0x1234; cycles = 2 }
  pub sixteen_bits : word_write (slave 2) other 2 0x1234 ≡ record { datum = 0x1234; cycles = 1 }
  pub eight_bits_left : after_word_write (slave 1) other 2 0x1234 ≡ holding
  pub sixteen_bits_left : after_word_write (slave 2) other 2 0x1234 ≡ holding
  pub odd_byte : byte_write other 3 0x34 ≡ record { datum = 0x34; cycles = 1 }
  pub odd_byte_left : after_byte_write other 3 0x34 ≡ 0xA0 ∷ 0xA1 ∷ 0xA2 ∷ 0x34 ∷ 0xA4 ∷ []

-- Address 1 is odd, at 4 only the word's even byte is there, and 5 is past the end.
pub record NothingThere : Type 0 where
  pub none : nothing ≡ record { datum = 0; cycles = 0 }
  pub odd_read : word_read (slave 1) holding 1 ≡ nothing
  pub odd_write : word_write (slave 2) other 1 0x1234 ≡ nothing
  pub odd_left : after_word_write (slave 2) other 1 0x1234 ≡ other
  pub last_read : word_read (slave 2) holding 4 ≡ nothing
  pub last_write : word_write (slave 1) other 4 0x1234 ≡ nothing
  pub last_left : after_word_write (slave 1) other 4 0x1234 ≡ other
  pub end_read : byte_read holding 5 ≡ nothing
  pub end_write : byte_write other 5 0x34 ≡ nothing
  pub end_left : after_byte_write other 5 0x34 ≡ other
