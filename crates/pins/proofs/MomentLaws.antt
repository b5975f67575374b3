-- What stands on the pins at a moment, from what stands on the bus.
use mathlib.Core.Path.{◌≡◌, refl, sym, ap, ap₂, subst, ◌∙◌}
use mathlib.Core.Logic.{◌⊎◌, inl, ⊎_elim}
use mathlib.Core.Bool.{Bool, true, false, cond, not, ◌&&◌, ◌||◌}
use mathlib.Core.List.{List, [], ◌∷◌}
use Prim.Native.Nat.pow
use Prim.Native.Nat.{ℕ, suc, ◌+◌, ◌-◌, ◌*◌, ◌/◌, ◌%◌, ◌^◌, ◌<◌}
use native.Mathlib.Omega.{arith}
use lib.Dec.{eqb, leb}
use lib.ListN.{length, get_or}
use borrow.Author.Tests.{leb-true, eqb-true, eqb-false}
use Rattle.words.specs.Bits.{bit_at}
use Rattle.words.specs.Below.{all_below}
use Rattle.words.specs.Among.{is_among, every_listed, beside}
use Rattle.words.proofs.TestLaws.{true_or_false, both_of, neither_of}
use Rattle.words.proofs.BitLaws.{shr_suc}
use Rattle.words.proofs.BelowLaws.{all_at, all_same, same_below}
use Rattle.phases.specs.Phase as Phase
use Rattle.phases.specs.Signal.{HOLD, pHLDA, ADSB, SDSB, DODSB, CDSB, SIXTN, sXTRQ, is_on, signals_in}
use Rattle.phases.specs.Status.{sMEMR, sM1, sINP, sOUT, sWO, status_of}
use Rattle.phases.specs.Control.{pSYNC, pSTVAL, pDBIN, pWR, is_reading, is_writing, strobe_of, control_in}
use Rattle.pins.specs.BusLine.{is_driven}
use Rattle.pins.specs.Pin.{pin_table, pin_at, is_high}
use Rattle.pins.specs.Moments.{has_strobe}
use Rattle.pins.specs.Picture.{picture_of}
use Rattle.pins.specs.ReadAgain.{high_on, driven_on}
use Rattle.pins.specs.Promises.{address_pins, out_pins, in_pins, priority_pins, status_pins, always_pins, never_pins, number_on}
use Rattle.pins.specs.Promises.{BusShown, NoCycle, InCycle, OnDO, OnDI, OnBoth}
use Rattle.pins.specs.declared.moments.Moment.{Moment}
use Rattle.pins.proofs.PinLaws.{high_is, driven_is, low_undriven}

-- ---- Computed over phases and kinds

-- two tests agree
abbrev pub agree : Bool → Bool → Bool
agree a b = cond a b (not b)

pub agreed : (a b : Bool) → agree a b ≡ true → a ≡ b
agreed true true e = refl
agreed true false e = sym e
agreed false true e = e
agreed false false e = refl

-- what a word adds to the signals of a phase
abbrev pub Word : ℕ → Type 0
Word w = (w ≡ 0) ⊎ ((w ≡ 0x80) ⊎ (w ≡ 0xC0))

-- a signal in the six phases, whatever a word adds
pub signal_span : (weight : ℕ) (span : ℕ → Bool)
    → all_below (λ p. agree (is_on weight (signals_in p + 0)) (span p) && agree (is_on weight (signals_in p + 0x80)) (span p)
    && agree (is_on weight (signals_in p + 0xC0)) (span p)) 6 ≡ true
    → (phase w : ℕ) → phase < 6 → Word w → is_on weight (signals_in phase + w) ≡ span phase
signal_span weight span e phase w h word =
    let all = all_at _ 6 e phase h in
    let two = both_of (agree (is_on weight (signals_in phase + 0)) (span phase) && agree (is_on weight (signals_in phase + 0x80)) (span phase))
    (agree (is_on weight (signals_in phase + 0xC0)) (span phase)) all in
    let one = both_of (agree (is_on weight (signals_in phase + 0)) (span phase)) (agree (is_on weight (signals_in phase + 0x80)) (span phase)) two.0 in
    ⊎_elim (λ is. rw is (agreed _ _ one.0)) (⊎_elim (λ is. rw is (agreed _ _ one.1)) (λ is. rw is (agreed _ _ two.1))) word

-- a signal of words, which no phase has
word_signal : (weight : ℕ)
    → all_below (λ p. agree (is_on weight (signals_in p + 0)) (is_on weight 0) && agree (is_on weight (signals_in p + 0x80)) (is_on weight 0x80)
    && agree (is_on weight (signals_in p + 0xC0)) (is_on weight 0xC0)) 6 ≡ true
    → (phase w : ℕ) → phase < 6 → Word w → is_on weight (signals_in phase + w) ≡ is_on weight w
word_signal weight e phase w h word =
    let two = both_of (agree (is_on weight (signals_in phase + 0)) (is_on weight 0) && agree (is_on weight (signals_in phase + 0x80)) (is_on weight 0x80))
    (agree (is_on weight (signals_in phase + 0xC0)) (is_on weight 0xC0)) (all_at _ 6 e phase h) in
    let one = both_of (agree (is_on weight (signals_in phase + 0)) (is_on weight 0)) (agree (is_on weight (signals_in phase + 0x80)) (is_on weight
    0x80)) two.0 in
    ⊎_elim (λ is. rw is (agreed _ _ one.0)) (⊎_elim (λ is. rw is (agreed _ _ one.1)) (λ is. rw is (agreed _ _ two.1))) word

no_sixtn : (phase : ℕ) → phase < 6 → is_on SIXTN (signals_in phase + 0) ≡ false
unfolding all_below beside signals_in
no_sixtn phase h = word_signal SIXTN refl phase 0 h (inl refl)

-- a test of phase and kind, where a kind with a strobe has a phase with cycles
by_phase_and_kind : (f g : ℕ → ℕ → Bool)
    → all_below (λ p. all_below (λ k. (has_strobe k && not (Phase.has_cycles p)) || agree (f p k) (g p k)) 16) 6 ≡ true
    → (phase kind : ℕ) → phase < 6 → kind < 16 → (has_strobe kind && not (Phase.has_cycles phase)) ≡ false → f phase kind ≡ g phase kind
by_phase_and_kind f g e phase kind h k fits =
    let here = all_at _ 16 (all_at _ 6 e phase h) kind k in
    agreed (f phase kind) (g phase kind) (subst (λ (b : Bool). (b || agree (f phase kind) (g phase kind)) ≡ true) fits here)

-- MWRT by the two lines that it is made of, as they stand on their pins
write_strobe : (on wr out : Bool) → (on ≡ false → out ≡ false) → (wr && not out) ≡ (not (not wr) && not (on && (on && out)))
write_strobe true true out quiet = refl
write_strobe true false out quiet = refl
write_strobe false true out quiet = rw (quiet refl) refl
write_strobe false false out quiet = refl

-- ---- A moment of an accepted event

pub record Fits (x : Moment) (phase kind w : ℕ) : Type 0 where
  pub phase_known : phase < 6
  pub kind_known : kind < 16
  pub turn : (has_strobe kind && not (Phase.has_cycles phase)) ≡ false
  pub word : Word w
  pub signals : x.signals ≡ signals_in phase + w
  pub lines : x.lines < 16
  pub control : x.control ≡ control_in phase kind
  pub status : x.status ≡ status_of kind

-- ---- Lists of pins

module _ (x : Moment) where
  -- pins of a list in one go: what is asked of the line is asked of the table
  each_driven : (f : Bool → Bool) (pins : List ℕ) → every_listed (λ n. leb 1 n && leb n 100) pins ≡ true
      → every_listed (λ n. f (driven_on (picture_of x) n)) pins ≡ every_listed (λ n. f (is_driven (pin_at n).line x)) pins
  unfolding every_listed
  each_driven f pins within =
      all_same (λ i. f (driven_on (picture_of x) (get_or pins i 0))) (λ i. f (is_driven (pin_at (get_or pins i 0)).line x)) (length pins)
      (λ i h.
      let both = both_of (leb 1 (get_or pins i 0)) (leb (get_or pins i 0) 100) (all_at _ (length pins) within i h) in
      ap f (driven_is x (get_or pins i 0) (leb-true 1 (get_or pins i 0) both.0) (leb-true (get_or pins i 0) 100 both.1)))

  -- a pin by its number
  pub pin : (n : ℕ) → (leb 1 n && leb n 100) ≡ true → high_on (picture_of x) n ≡ is_high (pin_at n) x
  pin n within = let both = both_of (leb 1 n) (leb n 100) within in high_is x n (leb-true 1 n both.0) (leb-true n 100 both.1)

  -- ---- Numbers on pins

  -- the pins of a list are high as these tests say, from one on
  unfoldable Carries : (ℕ → Bool) → ℕ → List ℕ → Type 0
  Carries f k [] = Unit
  Carries f k (n ∷ pins) = (high_on (picture_of x) n ≡ f k) × Carries f (suc k) pins

  number_from : (f : ℕ → Bool) (number : ℕ) → ((i : ℕ) → f i ≡ bit_at number i) → (pins : List ℕ) (k : ℕ) → Carries f k pins
      → number / 2 ^ k < 2 ^ length pins → number_on (picture_of x) pins ≡ number / 2 ^ k
  unfolding Carries
  number_from f number each [] k on small = omega (arith, small)
  number_from f number each (n ∷ pins) k on small =
      let half = shr_suc number k in
      let later = number_from f number each pins (suc k) on.1 (half_below (number / 2 ^ k) (number / 2 ^ suc k) (length pins) half small) in
      rw (on.0, each k, later, ← half) (whole (number / 2 ^ k))
    where
      half_below : (q r l : ℕ) → q / 2 ≡ r → q < 2 ^ suc l → r < 2 ^ l
      half_below q r l e h = omega (arith, e, h, pow.suc 2 l)

      whole : (q : ℕ) → cond (eqb (q % 2) 1) 1 0 + 2 * (q / 2) ≡ q
      whole q =
          ⊎_elim (λ one. rw one (omega (arith, eqb-true (q % 2) 1 one))) (λ none. rw none (omega (arith, eqb-false (q % 2) 1 none)))
          (true_or_false (eqb (q % 2) 1))

  number_is : (f : ℕ → Bool) (number : ℕ) → ((i : ℕ) → f i ≡ bit_at number i) → (pins : List ℕ) → Carries f 0 pins → number < 2 ^ length pins
      → number_on (picture_of x) pins ≡ number
  number_is f number each pins on small =
      let all : number / 2 ^ 0 ≡ number = omega arith in number_from f number each pins 0 on (omega (arith, all, small)) ∙ all

  address_carried : Carries (λ k. x.cyclic && bit_at x.address k) 0 address_pins
  unfolding Carries beside pin_table
  address_carried = (
    pin 79 refl,
    (
      pin 80 refl,
      (
        pin 81 refl,
        (
          pin 31 refl,
          (
            pin 30 refl,
            (
              pin 29 refl,
              (
                pin 82 refl,
                (
                  pin 83 refl,
                  (
                    pin 84 refl,
                    (
                      pin 34 refl,
                      (
                        pin 37 refl,
                        (
                          pin 87 refl,
                          (
                            pin 33 refl,
                            (
                              pin 85 refl,
                              (
                                pin 86 refl,
                                (
                                  pin 32 refl,
                                  (
                                    pin 16 refl,
                                    (
                                      pin 17 refl,
                                      (pin 15 refl, (pin 59 refl, (pin 61 refl, (pin 62 refl, (pin 63 refl, (pin 64 refl, tt)))))),
                                    ),
                                  ),
                                ),
                              ),
                            ),
                          ),
                        ),
                      ),
                    ),
                  ),
                ),
              ),
            ),
          ),
        ),
      ),
    ),
  )

  out_carried : Carries (λ k. x.doutDriven && bit_at x.dout k) 0 out_pins
  unfolding Carries beside pin_table
  out_carried = (pin 36 refl, (pin 35 refl, (pin 88 refl, (pin 89 refl, (pin 38 refl, (pin 39 refl, (pin 40 refl, (pin 90 refl, tt))))))))

  in_carried : Carries (λ k. x.dinDriven && bit_at x.din k) 0 in_pins
  unfolding Carries beside pin_table
  in_carried = (pin 95 refl, (pin 94 refl, (pin 41 refl, (pin 42 refl, (pin 91 refl, (pin 92 refl, (pin 93 refl, (pin 43 refl, tt))))))))

  -- what is driven shows its bits
  shown_bits : (on : Bool) (number : ℕ) → on ≡ true → (k : ℕ) → (on && bit_at number k) ≡ bit_at number k
  shown_bits on number e k = ap (λ (b : Bool). b && bit_at number k) e

  pub address_on : x.cyclic ≡ true → x.address < 2 ^ 24 → number_on (picture_of x) address_pins ≡ x.address
  address_on on = number_is _ x.address (shown_bits x.cyclic x.address on) address_pins address_carried

  pub out_on : x.doutDriven ≡ true → x.dout < 2 ^ 8 → number_on (picture_of x) out_pins ≡ x.dout
  out_on on = number_is _ x.dout (shown_bits x.doutDriven x.dout on) out_pins out_carried

  pub in_on : x.dinDriven ≡ true → x.din < 2 ^ 8 → number_on (picture_of x) in_pins ≡ x.din
  in_on on = number_is _ x.din (shown_bits x.dinDriven x.din on) in_pins in_carried

  -- the priority lines are low when true
  priority_low : (lines : ℕ) → lines < 16
      → cond (not (bit_at lines 0)) 1 0
      + 2 * (cond (not (bit_at lines 1)) 1 0 + 2 * (cond (not (bit_at lines 2)) 1 0 + 2 * (cond (not (bit_at lines 3)) 1 0 + 2 * 0)))
      ≡ 15 - lines
  unfolding all_below
  priority_low lines =
      same_below
      (λ l.
      cond (not (bit_at l 0)) 1 0
      + 2 * (cond (not (bit_at l 1)) 1 0 + 2 * (cond (not (bit_at l 2)) 1 0 + 2 * (cond (not (bit_at l 3)) 1 0 + 2 * 0))))
      (λ l. 15 - l) 16 refl lines

  pub priority_on_holds : x.lines < 16 → number_on (picture_of x) priority_pins ≡ 15 - x.lines
  unfolding beside pin_table
  priority_on_holds small = rw (pin 55 refl, pin 56 refl, pin 57 refl, pin 14 refl) (priority_low x.lines small)

  -- each disable line is low when true
  pub disabling_on_holds : (high_on (picture_of x) 22 ≡ not (is_on ADSB x.signals))
      × ((high_on (picture_of x) 18 ≡ not (is_on SDSB x.signals))
      × ((high_on (picture_of x) 23 ≡ not (is_on DODSB x.signals)) × (high_on (picture_of x) 19 ≡ not (is_on CDSB x.signals))))
  unfolding beside pin_table
  disabling_on_holds = (pin 22 refl, (pin 18 refl, (pin 23 refl, pin 19 refl)))

  -- ---- The bus in its phase

  pub outputs : {phase kind w : ℕ} → Fits x phase kind w → (weight : ℕ) (g : ℕ → ℕ → Bool)
      → all_below (λ p. all_below (λ k. (has_strobe k && not (Phase.has_cycles p)) || agree (is_on weight (control_in p k)) (g p k)) 16) 6 ≡ true
      → is_on weight x.control ≡ g phase kind
  outputs {phase} {kind} fits weight g e =
      ap (is_on weight) fits.control
      ∙ by_phase_and_kind (λ p k. is_on weight (control_in p k)) g e phase kind fits.phase_known fits.kind_known fits.turn

  pub bus_shown : (phase kind w : ℕ) → Fits x phase kind w → (x.cyclic ≡ false → is_on sOUT x.status ≡ false) → BusShown phase x.lines (picture_of x)
  unfolding all_below every_listed is_among beside pin_table signals_in strobe_of control_in
  bus_shown phase kind w fits quiet = record {
    hold = pin 74 refl ∙ low HOLD (Phase.is_from Phase.arbitration Phase.owned) refl;
    hlda = pin 26 refl ∙ outputs fits pHLDA (λ p k. Phase.is_from Phase.granted Phase.transfer_two p) refl;
    adsb = pin 22 refl ∙ low ADSB (Phase.is_from Phase.transfer_one Phase.transfer_two) refl;
    sdsb = pin 18 refl ∙ low SDSB (Phase.is_from Phase.transfer_one Phase.transfer_two) refl;
    dodsb = pin 23 refl ∙ low DODSB (Phase.is_from Phase.transfer_one Phase.transfer_two) refl;
    cdsb = pin 19 refl ∙ low CDSB (Phase.is_from Phase.owned Phase.owned) refl;
    priority = priority_on_holds fits.lines;
    sync = pin 76 refl ∙ outputs fits pSYNC (λ p k. false) refl;
    stval = pin 25 refl ∙ ap not (outputs fits pSTVAL (λ p k. false) refl);
    mwrt =
        rw (pin 68 refl, pin 77 refl, driven_is x 45 (omega arith) (omega arith), pin 45 refl) (
        write_strobe x.cyclic (is_on pWR x.control) (is_on sOUT x.status) quiet);
    always = each_driven (λ b. b) always_pins refl;
    never = each_driven not never_pins refl;
    undriven = low_undriven x;
  }
    where
      low : (weight : ℕ) (span : ℕ → Bool)
          → all_below (λ p. agree (is_on weight (signals_in p + 0)) (span p) && agree (is_on weight (signals_in p + 0x80)) (span p)
          && agree (is_on weight (signals_in p + 0xC0)) (span p)) 6 ≡ true
          → not (is_on weight x.signals) ≡ not (span phase)
      low weight span e =
          ap not (ap (is_on weight) fits.signals ∙ signal_span weight span e phase w fits.phase_known fits.word)

  -- ---- With a cycle on, and without

  pub no_cycle : (phase kind : ℕ) → Fits x phase kind 0 → has_strobe kind ≡ false → x.cyclic ≡ false → x.doutDriven ≡ false → x.dinDriven ≡ false
      → NoCycle (picture_of x)
  unfolding all_below every_listed is_among beside pin_table signals_in strobe_of control_in
  no_cycle phase kind fits still cyc out into = record {
    dbin = pin 78 refl ∙ outputs fits pDBIN (λ p k. is_among k (0x06 ∷ 0x07 ∷ 0x09 ∷ 0x0B ∷ [])) refl ∙ (neither_of (is_reading kind) (is_writing
        kind) still).0;
    wr = pin 77 refl ∙ ap not (outputs fits pWR (λ p k. is_among k (0x08 ∷ 0x0A ∷ 0x0C ∷ [])) refl ∙ (neither_of (is_reading kind) (is_writing kind) still).1);
    sixtn = pin 60 refl ∙ ap (λ (s : ℕ). not (is_on SIXTN s)) fits.signals ∙ ap not (no_sixtn phase fits.phase_known);
    address = each_driven not address_pins refl ∙ rw cyc refl;
    status = each_driven not status_pins refl ∙ rw cyc refl;
    out = each_driven not out_pins refl ∙ rw out refl;
    into = each_driven not in_pins refl ∙ rw into refl;
  }

  pub in_cycle : (phase kind w : ℕ) → Fits x phase kind w → has_strobe kind ≡ true → x.cyclic ≡ true → x.address < 2 ^ 24
      → InCycle kind x.address (is_on sXTRQ w) (is_on SIXTN w) (picture_of x)
  unfolding all_below every_listed is_among beside pin_table signals_in strobe_of control_in status_of
  in_cycle phase kind w fits strobe cyc small = record {
    dbin = pin 78 refl ∙ outputs fits pDBIN (λ p k. is_among k (0x06 ∷ 0x07 ∷ 0x09 ∷ 0x0B ∷ [])) refl;
    wr = pin 77 refl ∙ ap not (outputs fits pWR (λ p k. is_among k (0x08 ∷ 0x0A ∷ 0x0C ∷ [])) refl);
    memr = told 47 sMEMR (λ k. is_among k (0x06 ∷ 0x07 ∷ 0x09 ∷ [])) refl (pin 47 refl);
    m1 = told 44 sM1 (λ k. is_among k (0x07 ∷ [])) refl (pin 44 refl);
    inp = told 46 sINP (λ k. is_among k (0x0B ∷ [])) refl (pin 46 refl);
    outp = told 45 sOUT (λ k. is_among k (0x0C ∷ [])) refl (pin 45 refl);
    wo = pin 97 refl ∙ rw cyc (ap not (by_kind sWO (λ k. is_among k (0x08 ∷ 0x0A ∷ 0x0C ∷ [])) refl));
    xtrq = pin 58 refl ∙ rw cyc (ap not (extra sXTRQ refl));
    sixtn = pin 60 refl ∙ ap not (extra SIXTN refl);
    at = address_on cyc small;
    address_driven = each_driven (λ b. b) address_pins refl ∙ rw cyc refl;
    status_driven = each_driven (λ b. b) status_pins refl ∙ rw cyc refl;
  }
    where
      by_kind : (weight : ℕ) (g : ℕ → Bool) → all_below (λ k. agree (is_on weight (status_of k)) (g k)) 16 ≡ true → is_on weight x.status ≡ g kind
      by_kind weight g e =
          ap (is_on weight) fits.status
          ∙ agreed (is_on weight (status_of kind)) (g kind) (all_at (λ k. agree (is_on weight (status_of k)) (g k)) 16 e kind fits.kind_known)

      told : (n weight : ℕ) (g : ℕ → Bool) → all_below (λ k. agree (is_on weight (status_of k)) (g k)) 16 ≡ true
          → high_on (picture_of x) n ≡ (x.cyclic && is_on weight x.status) → high_on (picture_of x) n ≡ g kind
      told n weight g e here = here ∙ ap₂ ◌&&◌ cyc (by_kind weight g e)

      extra : (weight : ℕ)
          → all_below (λ p. agree (is_on weight (signals_in p + 0)) (is_on weight 0) && agree (is_on weight (signals_in p + 0x80)) (is_on weight 0x80)
          && agree (is_on weight (signals_in p + 0xC0)) (is_on weight 0xC0)) 6 ≡ true
          → is_on weight x.signals ≡ is_on weight w
      extra weight e = ap (is_on weight) fits.signals ∙ word_signal weight e phase w fits.phase_known fits.word

  pub on_do : x.doutDriven ≡ true → x.dinDriven ≡ false → x.dout < 2 ^ 8 → OnDO x.dout (picture_of x)
  unfolding all_below every_listed beside pin_table
  on_do out into small = record {
    out = out_on out small;
    driven = each_driven (λ b. b) out_pins refl ∙ rw out refl;
    other = each_driven not in_pins refl ∙ rw into refl;
  }

  pub on_di : x.doutDriven ≡ false → x.dinDriven ≡ true → x.din < 2 ^ 8 → OnDI x.din (picture_of x)
  unfolding all_below every_listed beside pin_table
  on_di out into small = record {
    into = in_on into small;
    driven = each_driven (λ b. b) in_pins refl ∙ rw into refl;
    other = each_driven not out_pins refl ∙ rw out refl;
  }

  pub on_both : x.doutDriven ≡ true → x.dinDriven ≡ true → x.dout < 2 ^ 8 → x.din < 2 ^ 8 → OnBoth x.dout x.din (picture_of x)
  unfolding all_below every_listed beside pin_table
  on_both out into even odd = record {
    out = out_on out even;
    into = in_on into odd;
    out_driven = each_driven (λ b. b) out_pins refl ∙ rw out refl;
    in_driven = each_driven (λ b. b) in_pins refl ∙ rw into refl;
  }
