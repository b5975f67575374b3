-- The status lines in a cycle, by its kind (000, 2.2.3.2; 01, "Bytes, words, status").
use Rattle.std.specs.Prelude.{ℕ, ◌+◌, [], ◌∷◌}
use Rattle.words.specs.Among.{beside}
use Rattle.phases.specs.Kind as Kind

-- ---- The status signals

abbrev pub sMEMR : ℕ
sMEMR = 0x01

abbrev pub sM1 : ℕ
sM1 = 0x02

abbrev pub sINP : ℕ
sINP = 0x04

abbrev pub sOUT : ℕ
sOUT = 0x08

abbrev pub sWO : ℕ
sWO = 0x10

-- an event that is no cycle has none
unfoldable pub status_of : ℕ → ℕ
status_of kind =
    beside kind (
    (Kind.byte_read, sMEMR) ∷ (Kind.word_read, sMEMR) ∷ (Kind.opcode_fetch, sMEMR + sM1) ∷ (Kind.byte_write, sWO) ∷ (Kind.word_write, sWO)
    ∷ (Kind.input, sINP) ∷ (Kind.output, sOUT + sWO) ∷ []
    ) 0
