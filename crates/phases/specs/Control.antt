-- The five control outputs, and MWRT, which is made of one of them (000, 2.2.5, Table 7, 2.7.4 and 2.7.5).
use Rattle.std.specs.Prelude.{ℕ, ◌+◌, Bool, cond, not, ◌&&◌, [], ◌∷◌}
use Rattle.words.specs.Among.{is_among}
use Rattle.phases.specs.Phase as Phase
use Rattle.phases.specs.Kind as Kind
use Rattle.phases.specs.Signal.{pHLDA, is_on, signals_in}
use Rattle.phases.specs.Status.{sOUT}

-- ---- Their weights in a byte of their own, which 01 doesn't give: pHLDA keeps the weight that it has among the signals

abbrev pub pSYNC : ℕ
pSYNC = 0x01

abbrev pub pSTVAL : ℕ
pSTVAL = 0x04

abbrev pub pDBIN : ℕ
pDBIN = 0x08

abbrev pub pWR : ℕ
pWR = 0x10

-- ---- The rule

-- cycles with the read strobe (000, 2.7.4)
abbrev pub is_reading : ℕ → Bool
is_reading kind = is_among kind (Kind.byte_read ∷ Kind.opcode_fetch ∷ Kind.word_read ∷ Kind.input ∷ [])

-- cycles with the write strobe (000, 2.7.5)
abbrev pub is_writing : ℕ → Bool
is_writing kind = is_among kind (Kind.byte_write ∷ Kind.word_write ∷ Kind.output ∷ [])

-- the data strobe of a cycle of this kind; any other kind has none
unfoldable pub strobe_of : ℕ → ℕ
strobe_of kind = cond (is_reading kind) pDBIN (cond (is_writing kind) pWR 0)

-- The outputs that are true in a phase, with a cycle of this kind in it. The model has no time within a cycle, so pSYNC and pSTVAL, which mark
-- its start, are never true.
unfoldable pub control_in : ℕ → ℕ → ℕ
control_in phase kind = cond (Phase.has_cycles phase) (strobe_of kind) 0 + cond (is_on pHLDA (signals_in phase)) pHLDA 0

-- MWRT, made of pWR and sOUT as they stand on the bus
abbrev pub is_mwrt : ℕ → ℕ → Bool
is_mwrt control status = is_on pWR control && not (is_on sOUT status)
