-- The pictures of any event with any answer that the library may be handed: how many there are, and by what their lines go.
use mathlib.Core.Path.{◌≡◌, refl, sym, ap, ap₂, subst, ◌∙◌}
use mathlib.Core.Logic.{◌⊎◌, ⊎_elim}
use mathlib.Core.Bool.{Bool, true, false, cond, not, ◌&&◌, ◌||◌, true≢false}
use mathlib.Core.List.{List, [], ◌∷◌}
use Prim.Native.Nat.{ℕ, ◌+◌, ◌-◌, ◌/◌, ◌%◌}
use native.Mathlib.Omega.{arith}
use lib.Dec.{eqb}
use borrow.Author.Tests.{eq-eqb, ne_eqb}
use Rattle.words.specs.Among.{is_among, beside, has_beside, every_row}
use Rattle.words.proofs.TestLaws.{neither_of}
use Rattle.words.proofs.RowLaws.{rows_pass}
use Rattle.phases.specs.Phase as Phase
use Rattle.phases.specs.Kind as Kind
use Rattle.phases.specs.Signal.{pHLDA, sXTRQ, is_on, signal_table, signals_in}
use Rattle.phases.specs.Status.{sMEMR, sM1, sINP, sOUT, sWO}
use Rattle.phases.specs.Control.{pDBIN, pWR, is_reading, is_writing, strobe_of, control_in}
use Rattle.memory.specs.Halves.{even_half, odd_half}
use Rattle.judgement.specs.declared.event.Event.{Event}
use Rattle.events.specs.declared.answers.Answer.{Answer}
use Rattle.pins.specs.Pin.{pin_table}
use Rattle.pins.specs.Moments.{moment_of, idle_moment, byte_moment, word_moment, even_moment, odd_moment}
use Rattle.pins.specs.Moments.{has_strobe, odd_of_pair, moments_of}
use Rattle.pins.specs.Picture.{picture_of, pictures_of, lines_for}
use Rattle.pins.specs.Promises.{OneLine, TwoLines, has_cycle_kind, ByAnswer, AtAddress, InOneLine, AnyAnswerPictured}
use Rattle.pins.specs.declared.moments.Moment.{Moment}
use Rattle.pins.proofs.DigitLaws.{no_picture}
use Rattle.pins.proofs.MomentLaws.{agree, agreed, pin, priority_on_holds, address_on, on_both}
use Rattle.pins.proofs.AnswerLaws.{one_way, word_cycles}
use Rattle.pins.proofs.EventPictures.{one_picture, two_pictures, not_both, on_its_pins}

-- ---- The control outputs of any phase and kind

-- pHLDA is true from the grant to transfer two
acknowledged : (phase : ℕ) → is_on pHLDA (signals_in phase) ≡ is_among phase (2 ∷ 3 ∷ 4 ∷ 5 ∷ [])
unfolding signals_in every_row has_beside is_among
acknowledged phase =
    agreed (is_on pHLDA (signals_in phase)) (is_among phase (2 ∷ 3 ∷ 4 ∷ 5 ∷ []))
    (rows_pass (λ p signals. agree (is_on pHLDA signals) (is_among p (2 ∷ 3 ∷ 4 ∷ 5 ∷ []))) signal_table 0 refl phase
    (λ none. ap not (neither_of (eqb phase 1) _ (neither_of (eqb phase 0) _ none).1).1))

-- the outputs, by what they are made of
made_hlda : (cycles reads writes held : Bool) → is_on pHLDA (cond cycles (cond reads pDBIN (cond writes pWR 0)) 0 + cond held pHLDA 0) ≡ held
made_hlda true true w true = refl
made_hlda true true w false = refl
made_hlda true false true true = refl
made_hlda true false true false = refl
made_hlda true false false true = refl
made_hlda true false false false = refl
made_hlda false r w true = refl
made_hlda false r w false = refl

made_dbin : (cycles reads writes held : Bool)
    → is_on pDBIN (cond cycles (cond reads pDBIN (cond writes pWR 0)) 0 + cond held pHLDA 0) ≡ (cycles && reads)
made_dbin true true w true = refl
made_dbin true true w false = refl
made_dbin true false true true = refl
made_dbin true false true false = refl
made_dbin true false false true = refl
made_dbin true false false false = refl
made_dbin false r w true = refl
made_dbin false r w false = refl

made_wr : (cycles reads writes held : Bool) → (reads ≡ true → writes ≡ false)
    → is_on pWR (cond cycles (cond reads pDBIN (cond writes pWR 0)) 0 + cond held pHLDA 0) ≡ (cycles && writes)
made_wr true true true held apart = absurd (true≢false (apart refl))
made_wr true true false true apart = refl
made_wr true true false false apart = refl
made_wr true false true true apart = refl
made_wr true false true false apart = refl
made_wr true false false true apart = refl
made_wr true false false false apart = refl
made_wr false r w true apart = refl
made_wr false r w false apart = refl

-- the phases with cycles, listed
listed : (a b c : Bool) → (a || b || c) ≡ (a || (b || (c || false)))
listed true b c = refl
listed false true c = refl
listed false false true = refl
listed false false false = refl

with_cycles : (phase : ℕ) → Phase.has_cycles phase ≡ is_among phase (0 ∷ 1 ∷ 4 ∷ [])
unfolding is_among
with_cycles phase = listed (eqb phase 0) (eqb phase 1) (eqb phase 4)

-- ---- A moment of an answer

module _ (event : Event) (answer : Answer) (signals address out into : ℕ) (drivesOut drivesIn : Bool)
    (cyclic : (drivesOut || drivesIn) ≡ has_cycle_kind event) where
  by_answer : ByAnswer event answer signals (picture_of (moment_of event answer signals address out into drivesOut drivesIn))
  unfolding beside pin_table strobe_of control_in
  by_answer = record {
    hlda = pin x 26 refl ∙ made_hlda cycles reads writes held ∙ acknowledged answer.phase;
    dbin = pin x 78 refl ∙ made_dbin cycles reads writes held ∙ ap (λ (b : Bool). b && reads) (with_cycles answer.phase);
    wr =
        pin x 77 refl
        ∙ ap not (made_wr cycles reads writes held (not_both reads writes (one_way event.kind)))
        ∙ ap (λ (b : Bool). not (b && writes)) (with_cycles answer.phase);
    hold = pin x 74 refl;
    adsb = pin x 22 refl;
    sdsb = pin x 18 refl;
    dodsb = pin x 23 refl;
    cdsb = pin x 19 refl;
    sixtn = pin x 60 refl;
    xtrq = pin x 58 refl ∙ told (not (is_on sXTRQ signals));
    memr = pin x 47 refl ∙ told (is_on sMEMR answer.status);
    m1 = pin x 44 refl ∙ told (is_on sM1 answer.status);
    inp = pin x 46 refl ∙ told (is_on sINP answer.status);
    outp = pin x 45 refl ∙ told (is_on sOUT answer.status);
    wo = pin x 97 refl ∙ told (not (is_on sWO answer.status));
    priority = priority_on_holds x;
  }
    where
      x : Moment
      x = moment_of event answer signals address out into drivesOut drivesIn

      cycles : Bool
      cycles = Phase.has_cycles answer.phase

      reads : Bool
      reads = is_reading event.kind

      writes : Bool
      writes = is_writing event.kind

      held : Bool
      held = is_on pHLDA (signals_in answer.phase)

      -- what only a cycle drives
      told : (b : Bool) → ((drivesOut || drivesIn) && b) ≡ (has_cycle_kind event && b)
      told b = ap (λ (on : Bool). on && b) cyclic

-- ---- The pictures of an answer

module _ (event : Event) (answer : Answer) (ok : answer.refusal ≡ 0) where
  -- a word is listed by its two kinds
  words : (b : Bool) → is_among event.kind (0x09 ∷ 0x0A ∷ []) ≡ b → Kind.is_word event.kind ≡ b
  unfolding is_among
  words b e = sym (two (eqb event.kind 0x09) (eqb event.kind 0x0A)) ∙ e
    where
      two : (x y : Bool) → (x || (y || false)) ≡ (x || y)
      two true y = refl
      two false true = refl
      two false false = refl

  -- and has a strobe
  word_strobed : Kind.is_word event.kind ≡ true → has_strobe event.kind ≡ true
  unfolding is_among
  word_strobed word = ⊎_elim (λ e. rw e refl) (λ e. rw e refl) (word_cycles event.kind word)

  word_cyclic : Kind.is_word event.kind ≡ true → has_cycle_kind event ≡ true
  unfolding is_among
  word_cyclic word = ⊎_elim (λ e. rw e refl) (λ e. rw e refl) (word_cycles event.kind word)

  -- ---- Two lines

  abbrev Half : ℕ → ℕ → ℕ → List ℕ → Type 0
  Half signals address byte line = ByAnswer event answer signals line × AtAddress event address byte line

  half_shown : (signals address byte : ℕ) → Kind.is_word event.kind ≡ true
      → Half signals address byte (picture_of (byte_moment event answer signals address byte))
  half_shown signals address byte word = (
    by_answer event answer signals address byte byte (is_writing event.kind) (is_reading event.kind) refl,
    record { at = address_on (byte_moment event answer signals address byte) (word_cyclic word); carries = on_its_pins event answer signals address byte },
  )

  two_lines_shown : is_among event.kind (0x09 ∷ 0x0A ∷ []) ≡ true → answer.cycles ≡ 2
      → TwoLines (pictures_of event answer) (Half answer.signals event.address (answer.datum / 0x100))
      (Half (answer.signals % 0x80) (event.address - event.address % 2 + 1) (answer.datum % 0x100))
  unfolding moments_of
  two_lines_shown word two =
      let is = words true word in
      let pair : odd_of_pair event.address ≡ event.address - event.address % 2 + 1 = omega arith in
      two_pictures (pictures_of event answer) (even_moment event answer) (odd_moment event answer) _ _
      (rw (eq-eqb answer.refusal 0 ok, word_strobed is, is, eq-eqb answer.cycles 2 two) refl)
      (half_shown answer.signals event.address (answer.datum / 0x100) is)
      (subst (λ (a : ℕ). Half (answer.signals % 0x80) a (answer.datum % 0x100) (picture_of (odd_moment event answer))) pair (
      half_shown (answer.signals % 0x80) (odd_of_pair event.address) (answer.datum % 0x100) is))

  -- ---- One line

  abbrev Whole : List ℕ → Type 0
  Whole line = ByAnswer event answer answer.signals line × InOneLine event answer line

  idle_whole : has_strobe event.kind ≡ false → Whole (picture_of (idle_moment event answer))
  idle_whole none =
      let neither = neither_of (is_reading event.kind) (is_writing event.kind) none in
      let still : has_cycle_kind event ≡ false = ap₂ ◌||◌ neither.1 neither.0 in (
        by_answer event answer answer.signals 0 0 0 false false (sym still),
        record {
          at = λ cycle. absurd (true≢false (sym cycle ∙ still));
          word = λ word. absurd (true≢false (sym (word_strobed (words true word)) ∙ none));
          byte = λ other. (λ reads. absurd (true≢false (sym reads ∙ neither.0)), λ writes. absurd (true≢false (sym writes ∙ neither.1)));
        },
      )

  word_whole : Kind.is_word event.kind ≡ true → Whole (picture_of (word_moment event answer))
  word_whole word = (
    by_answer event answer answer.signals event.address (even_half answer.datum) (odd_half answer.datum) true true (sym (word_cyclic word)),
    record {
      at = λ cycle. address_on (word_moment event answer) refl;
      word = λ is small. on_both (word_moment event answer) refl refl (omega (arith, small)) (omega arith);
      byte = λ other. absurd (true≢false (sym word ∙ words false other));
    },
  )

  byte_whole : Kind.is_word event.kind ≡ false
      → Whole (picture_of (byte_moment event answer answer.signals event.address (odd_half answer.datum)))
  byte_whole narrow =
      let byte = odd_half answer.datum in (
        by_answer event answer answer.signals event.address byte byte (is_writing event.kind) (is_reading event.kind) refl,
        record {
          at = address_on (byte_moment event answer answer.signals event.address byte);
          word = λ word. absurd (true≢false (sym (words true word) ∙ narrow));
          byte = λ other. on_its_pins event answer answer.signals event.address byte (omega arith);
        },
      )

  one_line_shown : (is_among event.kind (0x09 ∷ 0x0A ∷ []) ≡ false) ⊎ (answer.cycles ≡ 2 → ⊥) → OneLine (pictures_of event answer) Whole
  unfolding moments_of
  one_line_shown whole = go (has_strobe event.kind) (Kind.is_word event.kind) refl refl
    where
      taken : eqb answer.refusal 0 ≡ true
      taken = eq-eqb answer.refusal 0 ok

      uncut : Kind.is_word event.kind ≡ true → eqb answer.cycles 2 ≡ false
      uncut word = ⊎_elim (λ other. absurd (true≢false (sym word ∙ words false other))) (λ not_two. ne_eqb answer.cycles 2 not_two) whole

      one : (x : Moment) → pictures_of event answer ≡ lines_for (x ∷ []) → Whole (picture_of x) → OneLine (pictures_of event answer) Whole
      one x = one_picture (pictures_of event answer) x Whole

      go : (strobe word : Bool) → has_strobe event.kind ≡ strobe → Kind.is_word event.kind ≡ word → OneLine (pictures_of event answer) Whole
      go false word e f = one (idle_moment event answer) (rw (taken, e) refl) (idle_whole e)
      go true true e f = one (word_moment event answer) (rw (taken, e, f, uncut f) refl) (word_whole f)
      go true false e f =
          one (byte_moment event answer answer.signals event.address (odd_half answer.datum)) (rw (taken, e, f) refl) (byte_whole f)

pub any_answer_pictured : AnyAnswerPictured
any_answer_pictured event answer = record {
  refused = no_picture event answer;
  split = two_lines_shown event answer;
  whole = one_line_shown event answer;
}
