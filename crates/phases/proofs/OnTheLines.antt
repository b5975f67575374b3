-- What the signals and the control outputs say of the phases.
use Prim.Native.Nat.{ℕ, suc, ◌+◌, ◌<◌, ◌≤◌}
use mathlib.Core.Path.{◌≡◌, refl, sym}
use mathlib.Core.Logic.{inl, inr}
use mathlib.Core.Bool.{Bool, true, false, cond, not, ◌&&◌, ◌||◌, true≢false}
use mathlib.Core.List.{[], ◌∷◌}
use native.Mathlib.Omega.{arith}
use lib.Dec.{eqb, leb}
use borrow.Author.Tests.{leb-true}
use Rattle.words.specs.Below.{all_below}
use Rattle.words.specs.Among.{is_among, beside, every_row}
use Rattle.words.proofs.BelowLaws.{all_at, same_below}
use Rattle.words.proofs.RowLaws.{rows_pass}
use Rattle.phases.specs.Phase as Phase
use Rattle.phases.specs.Kind as Kind
use Rattle.phases.specs.Signal.{HOLD, pHLDA, ADSB, SDSB, DODSB, CDSB, is_on, signal_table, signals_in}
use Rattle.phases.specs.Driver.{address, status_lines, data_out, control, drivers_in, driver_of}
use Rattle.phases.specs.Status.{status_of}
use Rattle.phases.specs.Control.{strobe_of, control_in, is_mwrt}
use Rattle.phases.specs.Promises.{FreeMeansBoth, SignalSpans, driven_by, DriversBySignals, TableSeven, WriteStrobe}

-- ---- HOLD and pHLDA

agree : Bool → Bool → Bool
agree a b = a && b || not a && not b

agreed : (a b : Bool) → agree a b ≡ true → a ≡ b
unfolding agree
agreed true true e = refl
agreed true false e = absurd (true≢false (sym e))
agreed false true e = absurd (true≢false (sym e))
agreed false false e = refl

pub free_means_both : FreeMeansBoth
unfolding agree all_below beside signals_in
free_means_both phase h =
    agreed _ _
    (all_at (λ p. agree (eqb p Phase.free) (not (is_on HOLD (signals_in p)) && not (is_on pHLDA (signals_in p)))) (suc Phase.last) refl phase (omega arith))

-- leaving sXTRQ and SIXTN, the signals are at most 3F
pub signals_most : (phase : ℕ) → signals_in phase ≤ 0x3F
unfolding signals_in every_row
signals_most phase = leb-true (signals_in phase) 0x3F (rows_pass (λ p signals. leb signals 0x3F) signal_table 0 refl phase (λ none. refl))

-- a signal's span, computed over all that a byte can say
span : (weight first last : ℕ) → all_below (λ p. agree (is_on weight (signals_in p)) (Phase.is_from first last p)) 256 ≡ true
    → (phase : ℕ) → phase < 256 → is_on weight (signals_in phase) ≡ Phase.is_from first last phase
span weight first last all phase h = agreed _ _ (all_at (λ p. agree (is_on weight (signals_in p)) (Phase.is_from first last p)) 256 all phase h)

pub signal_spans : SignalSpans
unfolding agree all_below beside signals_in
signal_spans phase h = record {
  hold = span HOLD Phase.arbitration Phase.owned refl phase h;
  hlda = span pHLDA Phase.granted Phase.transfer_two refl phase h;
  adsb = span ADSB Phase.transfer_one Phase.transfer_two refl phase h;
  sdsb = span SDSB Phase.transfer_one Phase.transfer_two refl phase h;
  dodsb = span DODSB Phase.transfer_one Phase.transfer_two refl phase h;
  cdsb = span CDSB Phase.owned Phase.owned refl phase h;
}

-- a group's driver, computed over the phases
driven : (group disabled enabled : ℕ)
    → all_below (λ p. eqb (driver_of p group) (driven_by (is_on disabled (signals_in p)) (is_on enabled (signals_in p)))) (suc Phase.last) ≡ true
    → (phase : ℕ) → phase ≤ Phase.last → driver_of phase group ≡ driven_by (is_on disabled (signals_in phase)) (is_on enabled (signals_in phase))
driven group disabled enabled all phase h =
    same_below (λ p. driver_of p group) (λ p. driven_by (is_on disabled (signals_in p)) (is_on enabled (signals_in p))) (suc Phase.last) all phase (omega arith)

pub drivers_by_signals : DriversBySignals
unfolding all_below beside signals_in drivers_in
drivers_by_signals phase h = record {
  of_address = driven address ADSB CDSB refl phase h;
  of_status = driven status_lines SDSB CDSB refl phase h;
  of_data = driven data_out DODSB CDSB refl phase h;
  of_control = driven control CDSB ADSB refl phase h;
}

-- ---- Control outputs

pub table_seven : TableSeven
unfolding control_in beside signals_in
table_seven phase kind (inl e) = rw e record { sync = refl; stval = refl; dbin = refl; wr = refl; hlda = refl }
table_seven phase kind (inr e) = rw e record { sync = refl; stval = refl; dbin = refl; wr = refl; hlda = refl }

-- MWRT at one kind, by whether there is a cycle and whether pHLDA is true, computed over all kinds
strobe_right : ℕ → Bool → Bool → Bool
strobe_right kind cycle held =
    agree (is_mwrt (cond cycle (strobe_of kind) 0 + cond held pHLDA 0) (status_of kind)) (cycle && is_among kind (Kind.byte_write ∷ Kind.word_write ∷ []))

computed : (cycle held : Bool) → all_below (λ kind. strobe_right kind cycle held) 256 ≡ true
unfolding all_below strobe_right agree strobe_of status_of is_among beside
computed true true = refl
computed true false = refl
computed false true = refl
computed false false = refl

pub write_strobe : WriteStrobe
unfolding control_in strobe_right
write_strobe phase kind h =
    agreed _ _ (all_at (λ k. strobe_right k (Phase.has_cycles phase) held) 256 (computed (Phase.has_cycles phase) held) kind h)
  where
    held : Bool
    held = is_on pHLDA (signals_in phase)
