-- The fifteen kinds of events, as 01 numbers them in "Events".
use Rattle.std.specs.Prelude.{ℕ, Bool, ◌&&◌, ◌||◌, eqb, leb}

abbrev pub request : ℕ
request = 0x01

abbrev pub look : ℕ
look = 0x02

abbrev pub acknowledge : ℕ
acknowledge = 0x03

abbrev pub begin_transfer_one : ℕ
begin_transfer_one = 0x04

abbrev pub take_bus : ℕ
take_bus = 0x05

-- ---- The cycles

abbrev pub byte_read : ℕ
byte_read = 0x06

abbrev pub opcode_fetch : ℕ
opcode_fetch = 0x07

abbrev pub byte_write : ℕ
byte_write = 0x08

abbrev pub word_read : ℕ
word_read = 0x09

abbrev pub word_write : ℕ
word_write = 0x0A

abbrev pub input : ℕ
input = 0x0B

abbrev pub output : ℕ
output = 0x0C

-- ---- The ways back

abbrev pub begin_transfer_two : ℕ
begin_transfer_two = 0x0D

abbrev pub give_back : ℕ
give_back = 0x0E

abbrev pub reset : ℕ
reset = 0x0F

abbrev pub last : ℕ
last = reset

-- ---- Which of the cycles it is

abbrev pub is_of_memory : ℕ → Bool
is_of_memory kind = leb byte_read kind && leb kind word_write

abbrev pub is_word : ℕ → Bool
is_word kind = eqb kind word_read || eqb kind word_write

abbrev pub is_of_ports : ℕ → Bool
is_of_ports kind = eqb kind input || eqb kind output
