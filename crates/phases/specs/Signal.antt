-- The signals that an answer shows, as 01 weighs them in "The program and one whole run", and those that are true in a phase.
use Rattle.std.specs.Prelude.{ℕ, ◌+◌, ◌/◌, ◌%◌, Bool, List, [], ◌∷◌, eqb}
use Rattle.words.specs.Among.{beside}
use Rattle.phases.specs.Phase as Phase

-- the signal of this weight is true in a byte
abbrev pub is_on : ℕ → ℕ → Bool
is_on weight byte = eqb (byte / weight % 2) 1

abbrev pub HOLD : ℕ
HOLD = 0x01

abbrev pub pHLDA : ℕ
pHLDA = 0x02

abbrev pub ADSB : ℕ
ADSB = 0x04

abbrev pub SDSB : ℕ
SDSB = 0x08

abbrev pub DODSB : ℕ
DODSB = 0x10

abbrev pub CDSB : ℕ
CDSB = 0x20

-- ---- Two that go by the cycle and not by the phase (000, 2.6.5)

-- the page answers with sixteen bits
abbrev pub SIXTN : ℕ
SIXTN = 0x40

-- the master asks for a word
abbrev pub sXTRQ : ℕ
sXTRQ = 0x80

-- ---- Those that go by the phase (01, "State and phases"; where each begins and ends: Promises.SignalSpans)

-- asserted together as transfer one begins
abbrev pub disabling : ℕ
disabling = ADSB + SDSB + DODSB

abbrev pub signal_table : List (ℕ × ℕ)
signal_table =
    (Phase.free, 0) ∷ (Phase.arbitration, HOLD) ∷ (Phase.granted, HOLD + pHLDA) ∷ (Phase.transfer_one, HOLD + pHLDA + disabling)
    ∷ (Phase.owned, HOLD + pHLDA + disabling + CDSB) ∷ (Phase.transfer_two, pHLDA + disabling) ∷ []

-- none is true in a phase that there is not
unfoldable pub signals_in : ℕ → ℕ
signals_in phase = beside phase signal_table 0
