-- What answers a cycle: the page that its address lies in, by its code (01, "State and phases").
use Rattle.std.specs.Prelude.{ℕ, Bool, eqb}
use Rattle.memory.specs.declared.Slave.{Slave}

abbrev pub eight_bit_page : ℕ
eight_bit_page = 1

abbrev pub sixteen_bit_page : ℕ
sixteen_bit_page = 2

abbrev pub slave : ℕ → Slave
slave code = record { code = code }

-- SIXTN says that a word is answered in one cycle (000, 2.6.5): a page of sixteen bits asserts it
abbrev pub asserts_sixtn : Slave → Bool
asserts_sixtn s = eqb s.code sixteen_bit_page
