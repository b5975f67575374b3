-- A picture read again tells the phase, the signals and the priority lines of its moment.
use mathlib.Core.Path.{◌≡◌, refl, sym, ap, ap₂, ◌∙◌}
use mathlib.Core.Logic.{◌⊎◌, inl, inr, ⊎_elim}
use mathlib.Core.Bool.{Bool, true, false, cond, not, ◌&&◌, ◌||◌, true≢false}
use mathlib.Core.List.{List, [], ◌∷◌, ◌++◌, append_assoc}
use Prim.Native.Nat.{ℕ, ◌+◌, ◌%◌, ◌<◌, ◌≤◌}
use native.Mathlib.Omega.{arith}
use lib.Dec.{eqb}
use lib.ListN.{length, take}
use lib.Seq.{take_at}
use borrow.Author.Tests.{eq-eqb, ne_eqb}
use Rattle.words.specs.Bits.{bit_at}
use Rattle.words.specs.Below.{all_below}
use Rattle.words.specs.Among.{is_among, beside, who_has}
use Rattle.words.proofs.TestLaws.{true_or_false}
use Rattle.words.proofs.BelowLaws.{same_below}
use Rattle.phases.specs.Phase as Phase
use Rattle.phases.specs.Kind as Kind
use Rattle.phases.specs.Signal.{HOLD, pHLDA, ADSB, SDSB, DODSB, CDSB, SIXTN, sXTRQ, is_on, signal_table, signals_in}
use Rattle.phases.specs.Control.{is_reading, is_writing, strobe_of, control_in}
use Rattle.memory.specs.Halves.{even_half, odd_half}
use Rattle.judgement.specs.Table.{is_cycle}
use Rattle.judgement.specs.declared.event.Event.{Event}
use Rattle.events.specs.Machine.{Machine}
use Rattle.events.specs.Answers.{word_signals}
use Rattle.events.specs.Cycles.{slave_at}
use Rattle.events.specs.Step.{refusal_in, answer_to}
use Rattle.events.specs.Promises.{code_there}
use Rattle.events.proofs.EachCycle.{word_read_does, word_write_does}
use Rattle.text.specs.Newlines.{newline}
use Rattle.text.proofs.FaultLaws.{wrong_first}
use Rattle.pins.specs.BusLine.{is_driven, is_true}
use Rattle.pins.specs.Pin.{pin_table, pin_at}
use Rattle.pins.specs.Moments.{idle_moment, byte_moment, word_moment, even_moment, odd_moment}
use Rattle.pins.specs.Picture.{picture_digits, picture_of, lines_for}
use Rattle.pins.specs.ReadAgain.{Seen, true_on, signals_on, priority_lines_on, phase_unknown, phase_with, seen, picture_in}
use Rattle.pins.specs.Promises.{signals_by_pins, priority_by_pins, phase_of_signals}
use Rattle.pins.specs.Promises.{ReadsBack, AlikePictured, FiftyDigitsRead, BadPictureRefused, pictures}
use Rattle.pins.specs.declared.moments.Moment.{Moment}
use Rattle.pins.proofs.DigitLaws.{picture_long}
use Rattle.pins.proofs.PinLaws.{high_is, driven_is}
use Rattle.pins.proofs.GatherLaws.{signals_in_order, lines_in_order}
use Rattle.pins.proofs.MomentLaws.{Word, Fits, signal_span, outputs}
use Rattle.pins.proofs.EventPictures.{fifty_digits, strobe, idle_moments, cycle_moments_holds, on_cycle, word_cycle}
use Rattle.pins.proofs.AnswerLaws.{word_strobe, word_cycles, kind_known, fits_as, no_word, eight_word, sixteen_word}

-- ---- Computed over the phases

-- the signals of a phase and of a word, told one by one; sXTRQ is told only in a cycle
abbrev told : Bool → ℕ → ℕ
told on s =
    cond (is_on SDSB s) SDSB 0
    + (cond (is_on CDSB s) CDSB 0
    + (cond (is_on ADSB s) ADSB 0
    + (cond (is_on DODSB s) DODSB 0
    + (cond (is_on pHLDA s) pHLDA 0 + (cond (on && is_on sXTRQ s) sXTRQ 0 + (cond (is_on SIXTN s) SIXTN 0 + (cond (is_on HOLD s) HOLD 0 + 0)))))))

told_all : (on : Bool) (phase w : ℕ) → phase < 6 → Word w → (w ≡ 0) ⊎ (on ≡ true) → told on (signals_in phase + w) ≡ signals_in phase + w
unfolding all_below beside signals_in
told_all true phase w h word cycle =
    ⊎_elim (λ e. rw e (same_below (λ p. told true (signals_in p + 0)) (λ p. signals_in p + 0) 6 refl phase h))
    (⊎_elim (λ e. rw e (same_below (λ p. told true (signals_in p + 0x80)) (λ p. signals_in p + 0x80) 6 refl phase h))
    (λ e. rw e (same_below (λ p. told true (signals_in p + 0xC0)) (λ p. signals_in p + 0xC0) 6 refl phase h))) word
told_all false phase w h word (inl e) = rw e (same_below (λ p. told false (signals_in p + 0)) (λ p. signals_in p + 0) 6 refl phase h)
told_all false phase w h word (inr e) = absurd (true≢false (sym e))

phase_told : (phase w : ℕ) → phase < 6 → Word w → phase_with (signals_in phase + w) ≡ phase
unfolding all_below beside who_has signals_in
phase_told phase w h word =
    ⊎_elim (λ e. rw e (same_below (λ p. phase_with (signals_in p + 0)) (λ p. p) 6 refl phase h))
    (⊎_elim (λ e. rw e (same_below (λ p. phase_with (signals_in p + 0x80)) (λ p. p) 6 refl phase h))
    (λ e. rw e (same_below (λ p. phase_with (signals_in p + 0xC0)) (λ p. p) 6 refl phase h))) word

lines_told : (lines : ℕ) → lines < 16
    → cond (bit_at lines 3) 8 0 + (cond (bit_at lines 0) 1 0 + (cond (bit_at lines 1) 2 0 + (cond (bit_at lines 2) 4 0 + 0))) ≡ lines
unfolding all_below
lines_told lines =
    same_below (λ l. cond (bit_at l 3) 8 0 + (cond (bit_at l 0) 1 0 + (cond (bit_at l 1) 2 0 + (cond (bit_at l 2) 4 0 + 0)))) (λ l. l) 16 refl lines

-- ---- A moment

-- a line that is driven and true is so on its pin
true_again : (driven starred t : Bool)
    → (driven && cond starred (not (driven && cond starred (not t) t)) (driven && cond starred (not t) t)) ≡ (driven && t)
true_again true true true = refl
true_again true true false = refl
true_again true false t = refl
true_again false starred t = refl

module _ (x : Moment) where
  true_is : (n : ℕ) → 1 ≤ n → n ≤ 100 → true_on (picture_of x) n (pin_at n).is_starred ≡ (is_driven (pin_at n).line x && is_true (pin_at n).line x)
  true_is n low high =
      rw (driven_is x n low high, high_is x n low high) (
      true_again (is_driven (pin_at n).line x) (pin_at n).is_starred (is_true (pin_at n).line x))

  signals_told : (phase kind w : ℕ) → Fits x phase kind w → (w ≡ 0) ⊎ (x.cyclic ≡ true) → signals_on (picture_of x) ≡ x.signals
  unfolding all_below is_among beside pin_table signals_in strobe_of control_in
  signals_told phase kind w fits cycle =
      signals_in_order (picture_of x)
      ∙ rw (
        true_is 18 (omega arith) (omega arith),
        true_is 19 (omega arith) (omega arith),
        true_is 22 (omega arith) (omega arith),
        true_is 23 (omega arith) (omega arith),
        true_is 26 (omega arith) (omega arith),
        true_is 58 (omega arith) (omega arith),
        true_is 60 (omega arith) (omega arith),
        true_is 74 (omega arith) (omega arith),
      ) (
      ap (λ (b : Bool). sum x.cyclic x.signals b) hlda
      ∙ ap (told x.cyclic) fits.signals
      ∙ told_all x.cyclic phase w fits.phase_known fits.word cycle
      ∙ sym fits.signals)
    where
      hlda : is_on pHLDA x.control ≡ is_on pHLDA x.signals
      hlda =
          let span = Phase.is_from Phase.granted Phase.transfer_two in
          outputs x fits pHLDA (λ p k. span p) refl
          ∙ sym (ap (is_on pHLDA) fits.signals ∙ signal_span pHLDA span refl phase w fits.phase_known fits.word)

      sum : Bool → ℕ → Bool → ℕ
      sum on s b =
          cond (is_on SDSB s) SDSB 0
          + (cond (is_on CDSB s) CDSB 0
          + (cond (is_on ADSB s) ADSB 0
          + (cond (is_on DODSB s) DODSB 0
          + (cond b pHLDA 0 + (cond (on && is_on sXTRQ s) sXTRQ 0 + (cond (is_on SIXTN s) SIXTN 0 + (cond (is_on HOLD s) HOLD 0 + 0)))))))

  lines_again : x.lines < 16 → priority_lines_on (picture_of x) ≡ x.lines
  unfolding beside pin_table
  lines_again small =
      lines_in_order (picture_of x)
      ∙ rw (
        true_is 14 (omega arith) (omega arith),
        true_is 55 (omega arith) (omega arith),
        true_is 56 (omega arith) (omega arith),
        true_is 57 (omega arith) (omega arith),
      ) (lines_told x.lines small)

  read_again : (phase kind w : ℕ) → Fits x phase kind w → (w ≡ 0) ⊎ (x.cyclic ≡ true)
      → picture_in (picture_of x) ≡ seen phase x.signals x.lines
  unfolding picture_in
  read_again phase kind w fits cycle =
      rw ((fifty_digits x).0, signals_told phase kind w fits cycle, lines_again fits.lines) (
      ap (λ (p : ℕ). seen p x.signals x.lines) (ap phase_with fits.signals ∙ phase_told phase w fits.phase_known fits.word))

-- ---- The first line of an event

first_line_holds : (x : Moment) (rest : List Moment) → take 50 (lines_for (x ∷ rest)) ≡ picture_of x
unfolding lines_for
first_line_holds x rest =
    ap (take 50) (append_assoc (picture_of x) (newline ∷ []) (lines_for rest)) ∙ take_at (picture_of x) ((newline ∷ []) ++ lines_for rest) 50 (picture_long x)

module _ (m : Machine) (event : Event) (ok : refusal_in m event ≡ 0) where
  reads : (x : Moment) (rest : List Moment) (w : ℕ) → pictures m event ≡ lines_for (x ∷ rest) → Fits x (answer_to m event).phase event.kind w
      → (w ≡ 0) ⊎ (x.cyclic ≡ true) → x.signals ≡ (answer_to m event).signals → x.lines ≡ (answer_to m event).lines
      → picture_in (take 50 (pictures m event)) ≡ seen (answer_to m event).phase (answer_to m event).signals (answer_to m event).lines
  reads x rest w is fits cycle signals lines =
      ap (λ (text : List ℕ). picture_in (take 50 text)) is
      ∙ ap picture_in (first_line_holds x rest)
      ∙ read_again x (answer_to m event).phase event.kind w fits cycle
      ∙ ap₂ (λ (s l : ℕ). seen (answer_to m event).phase s l) signals lines

  -- by what the event is
  idle_reads : is_cycle event.kind ≡ false
      → picture_in (take 50 (pictures m event)) ≡ seen (answer_to m event).phase (answer_to m event).signals (answer_to m event).lines
  idle_reads none =
      let narrow = no_word m event ok (word_strobe event.kind (kind_known m event ok) (strobe m event ok false none)) in
      reads (idle_moment event (answer_to m event)) [] 0 (idle_moments m event ok none) (fits_as m event ok 0 (inl refl) narrow 0 0 0 false false) (inl refl)
      refl refl

  byte_reads : is_cycle event.kind ≡ true → Kind.is_word event.kind ≡ false
      → picture_in (take 50 (pictures m event)) ≡ seen (answer_to m event).phase (answer_to m event).signals (answer_to m event).lines
  byte_reads cycle narrow =
      let datum = odd_half (answer_to m event).datum in
      reads (byte_moment event (answer_to m event) (answer_to m event).signals event.address datum) [] 0
      (cycle_moments_holds m event ok cycle ∙ rw narrow refl)
      (fits_as m event ok 0 (inl refl) (no_word m event ok narrow) event.address datum datum (is_writing event.kind) (is_reading event.kind))
      (inl refl) refl refl

  word_reads : Kind.is_word event.kind ≡ true → (w : ℕ) → Word w → word_signals event.kind (slave_at m.bus.pages event.address) ≡ w
      → picture_in (take 50 (pictures m event)) ≡ seen (answer_to m event).phase (answer_to m event).signals (answer_to m event).lines
  word_reads word w some adds = go (eqb (answer_to m event).cycles 2) refl
    where
      on : (is_writing event.kind || is_reading event.kind) ≡ true
      on = on_cycle m event ok (word_cycle m event ok word)

      go : (split : Bool) → eqb (answer_to m event).cycles 2 ≡ split
          → picture_in (take 50 (pictures m event)) ≡ seen (answer_to m event).phase (answer_to m event).signals (answer_to m event).lines
      go true two =
          let half = even_half (answer_to m event).datum in
          reads (even_moment event (answer_to m event)) (odd_moment event (answer_to m event) ∷ []) w
          (cycle_moments_holds m event ok (word_cycle m event ok word) ∙ rw (word, two) refl)
          (fits_as m event ok w some adds event.address half half (is_writing event.kind) (is_reading event.kind)) (inr on) refl refl
      go false one =
          let even = even_half (answer_to m event).datum in
          let odd = odd_half (answer_to m event).datum in
          reads (word_moment event (answer_to m event)) [] w
          (cycle_moments_holds m event ok (word_cycle m event ok word) ∙ rw (word, one) refl)
          (fits_as m event ok w some adds event.address even odd true true) (inr refl) refl refl

  -- a word's page has eight bits or sixteen
  by_page : Kind.is_word event.kind ≡ true → (code_there m event ≡ 1) ⊎ (code_there m event ≡ 2)
  by_page word =
      ⊎_elim (λ k. ⊎_elim (λ d. inl d.0) (λ d. inr d.0) (word_read_does m event (k, ok)))
      (λ k. ⊎_elim (λ d. inl d.0) (λ d. inr d.0) (word_write_does m event (k, ok))) (word_cycles event.kind word)

pub reads_back : ReadsBack
reads_back m event ok =
    ⊎_elim
    (λ (cycle : is_cycle event.kind ≡ true).
    ⊎_elim
    (λ (word : Kind.is_word event.kind ≡ true).
    ⊎_elim (λ code. word_reads m event ok word 0x80 (inr (inl refl)) (eight_word m event ok word code))
    (λ code. word_reads m event ok word 0xC0 (inr (inr refl)) (sixteen_word m event ok word code)) (by_page m event ok word))
    (λ (narrow : Kind.is_word event.kind ≡ false). byte_reads m event ok cycle narrow)
    (true_or_false (Kind.is_word event.kind)))
    (λ (none : is_cycle event.kind ≡ false). idle_reads m event ok none)
    (true_or_false (is_cycle event.kind))

pub alike_pictured : AlikePictured
alike_pictured m n event other ok ok' same =
    let told : seen (answer_to m event).phase (answer_to m event).signals (answer_to m event).lines
    ≡ seen (answer_to n other).phase (answer_to n other).signals (answer_to n other).lines =
    sym (reads_back m event ok) ∙ ap picture_in same ∙ reads_back n other ok' in
    (ap (λ (s : Seen). s.phase) told, (ap (λ (s : Seen). s.signals) told, ap (λ (s : Seen). s.lines) told))

-- ---- Any line

signals_by_pins_holds : (line : List ℕ) → signals_on line ≡ signals_by_pins line
signals_by_pins_holds line = omega (arith, signals_in_order line)

priority_by_pins_holds : (line : List ℕ) → priority_lines_on line ≡ priority_by_pins line
priority_by_pins_holds line = omega (arith, lines_in_order line)

-- the phase that has some signals is the one that stands beside them: six of sixty-four have one
phase_of_signals_holds : (signals : ℕ) → phase_with signals ≡ phase_of_signals (signals % 0x40)
unfolding all_below beside who_has
phase_of_signals_holds signals =
    same_below (λ s. who_has s signal_table phase_unknown) phase_of_signals 0x40 refl (signals % 0x40) (omega arith)

pub fifty_digits_read : FiftyDigitsRead
unfolding picture_in
fifty_digits_read line right =
    rw right (
    ap (λ (s : ℕ). seen (phase_with s) s (priority_lines_on line)) (signals_by_pins_holds line)
    ∙ ap₂ (λ (p l : ℕ). seen p (signals_by_pins line) l) (phase_of_signals_holds (signals_by_pins line)) (priority_by_pins_holds line))

pub bad_picture_refused : BadPictureRefused
unfolding picture_in
bad_picture_refused line = (
  λ other. rw (ne_eqb (length line) picture_digits other) refl,
  λ column size first. let so = wrong_first line column first in rw (eq-eqb (length line) picture_digits size, so.0, so.1) refl,
)
