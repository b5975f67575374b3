-- What is promised of signals and control outputs. The proof of each stands in proofs/ under its name in lower case, with underscores.
use Rattle.std.specs.Prelude.{ℕ, ◌<◌, ◌≤◌, ◌≡◌, ◌⊎◌, Bool, true, false, cond, not, ◌&&◌, [], ◌∷◌, eqb}
use Rattle.words.specs.Among.{is_among}
use Rattle.phases.specs.Phase as Phase
use Rattle.phases.specs.Kind as Kind
use Rattle.phases.specs.Signal.{HOLD, pHLDA, ADSB, SDSB, DODSB, CDSB, is_on, signals_in}
use Rattle.phases.specs.Driver.{address, status_lines, data_out, control, no_driver, permanent, card, both, driver_of}
use Rattle.phases.specs.Status.{status_of}
use Rattle.phases.specs.Control.{pSYNC, pSTVAL, pDBIN, pWR, control_in, is_mwrt}

-- A free bus is one with neither HOLD nor pHLDA (000, 2.8.2.3.2).
abbrev pub FreeMeansBoth : Type 0
FreeMeansBoth = (phase : ℕ) → phase ≤ Phase.last → eqb phase Phase.free ≡ (not (is_on HOLD (signals_in phase)) && not (is_on pHLDA (signals_in phase)))

-- From where to where each signal is true (000, 2.8.2.3): HOLD from the request until transfer two begins (001 has its end), pHLDA from the
-- acknowledge until the bus is given back (house), ADSB, SDSB and DODSB from the first step of transfer one to the last of transfer two, CDSB
-- in between;
pub record Spans (phase : ℕ) : Type 0 where
  pub hold : is_on HOLD (signals_in phase) ≡ Phase.is_from Phase.arbitration Phase.owned phase
  pub hlda : is_on pHLDA (signals_in phase) ≡ Phase.is_from Phase.granted Phase.transfer_two phase
  pub adsb : is_on ADSB (signals_in phase) ≡ Phase.is_from Phase.transfer_one Phase.transfer_two phase
  pub sdsb : is_on SDSB (signals_in phase) ≡ Phase.is_from Phase.transfer_one Phase.transfer_two phase
  pub dodsb : is_on DODSB (signals_in phase) ≡ Phase.is_from Phase.transfer_one Phase.transfer_two phase
  pub cdsb : is_on CDSB (signals_in phase) ≡ Phase.is_from Phase.owned Phase.owned phase

abbrev pub SignalSpans : Type 0
SignalSpans = (phase : ℕ) → phase < 256 → Spans phase

-- and who drives goes by them: a disable line takes its group from the permanent master (000, 2.2.7.2); the card's control outputs come with
-- ADSB, SDSB and DODSB, its other groups with CDSB (000, 2.8.2.3.4).
abbrev pub driven_by : Bool → Bool → ℕ
driven_by disabled enabled = cond disabled (cond enabled card no_driver) (cond enabled both permanent)

pub record DrivenBySignals (phase : ℕ) : Type 0 where
  pub of_address : driver_of phase address ≡ driven_by (is_on ADSB (signals_in phase)) (is_on CDSB (signals_in phase))
  pub of_status : driver_of phase status_lines ≡ driven_by (is_on SDSB (signals_in phase)) (is_on CDSB (signals_in phase))
  pub of_data : driver_of phase data_out ≡ driven_by (is_on DODSB (signals_in phase)) (is_on CDSB (signals_in phase))
  pub of_control : driver_of phase control ≡ driven_by (is_on CDSB (signals_in phase)) (is_on ADSB (signals_in phase))

abbrev pub DriversBySignals : Type 0
DriversBySignals = (phase : ℕ) → phase ≤ Phase.last → DrivenBySignals phase

-- the control outputs as 000, Table 7 lists them
pub record AsInTableSeven (control : ℕ) : Type 0 where
  pub sync : is_on pSYNC control ≡ false
  pub stval : is_on pSTVAL control ≡ false
  pub dbin : is_on pDBIN control ≡ false
  pub wr : is_on pWR control ≡ false
  pub hlda : is_on pHLDA control ≡ true

-- They stand so in both transfers, whatever kind of cycle is asked about.
abbrev pub TableSeven : Type 0
TableSeven = (phase kind : ℕ) → (phase ≡ Phase.transfer_one) ⊎ (phase ≡ Phase.transfer_two) → AsInTableSeven (control_in phase kind)

-- MWRT is true in a memory write, and only there.
abbrev pub WriteStrobe : Type 0
WriteStrobe =
    (phase kind : ℕ) → kind < 256
    → is_mwrt (control_in phase kind) (status_of kind) ≡ (Phase.has_cycles phase && is_among kind (Kind.byte_write ∷ Kind.word_write ∷ []))
