-- The answers, as 01 numbers them in "Refusals and their order", and 02 after it; which call can give which is said where the call is defined.
use Rattle.std.specs.Prelude.{ℕ}

abbrev pub accepted : ℕ
accepted = 0x00

-- memory or ports of the wrong length
abbrev pub wrong_buffers : ℕ
wrong_buffers = 0x01

-- a senseless state
abbrev pub senseless : ℕ
senseless = 0x02

-- a field that no such event has; a number that is no card's, in settle's list or where an outcome is asked for
abbrev pub malformed : ℕ
malformed = 0x03

-- a request of nobody
abbrev pub nobody_named : ℕ
nobody_named = 0x04

-- a card isn't fitted
abbrev pub not_fitted : ℕ
not_fitted = 0x05

-- out of its phase
abbrev pub wrong_phase : ℕ
wrong_phase = 0x06

-- a card, or the permanent master, that has no turn
abbrev pub not_its_turn : ℕ
not_its_turn = 0x07

-- the lines aren't settled
abbrev pub unsettled : ℕ
unsettled = 0x08

-- a word that begins at an odd byte
abbrev pub odd_word : ℕ
odd_word = 0x09

-- nothing answers at the address
abbrev pub absent : ℕ
absent = 0x0A

-- setup was given a page code above 2
abbrev pub bad_page : ℕ
bad_page = 0x0B

-- a text line of the wrong length
abbrev pub wrong_line_length : ℕ
wrong_line_length = 0x0C

-- a text line of the right length with a byte that is no digit (02, CR 2)
abbrev pub wrong_character : ℕ
wrong_character = 0x0D

-- none of 01's: a buffer of some call has a length that the call can't have, where 01's first number is for memory and ports alone
abbrev pub wrong_length : ℕ
wrong_length = 0xFF
