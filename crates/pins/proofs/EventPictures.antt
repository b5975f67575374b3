-- The lines of an accepted event, by what kind of event it is.
use mathlib.Core.Path.{◌≡◌, refl, sym, ap, subst, ◌∙◌}
use mathlib.Core.Logic.{◌⊎◌, inl, inr, ⊎_elim}
use mathlib.Core.Bool.{Bool, true, false, ◌&&◌, ◌||◌, true≢false, false≢true}
use mathlib.Core.List.{List, [], ◌∷◌}
use Prim.Native.Nat.{ℕ, ◌+◌, ◌-◌, ◌*◌, ◌^◌, ◌<◌}
use native.Mathlib.Decide.{dec_lt}
use native.Mathlib.Nat.{mod-eq_of_lt}
use native.Mathlib.Omega.{arith}
use lib.Dec.{eqb}
use lib.ListN.{length, get_or, set, length-set, get_or-append}
use lib.Seq.{get_or-append-add}
use borrow.Author.Tests.{eq-eqb, ne_eqb}
use Rattle.words.specs.Below.{list_below}
use Rattle.words.specs.Among.{beside}
use Rattle.words.proofs.TestLaws.{true_or_false}
use Rattle.words.proofs.BelowLaws.{list_below_at}
use Rattle.words.proofs.ListLaws.{every_of, get_d_set}
use Rattle.text.specs.Digits.{is_digit}
use Rattle.text.proofs.ReadBack.{digits_read_back}
use Rattle.phases.specs.Kind as Kind
use Rattle.phases.specs.Signal.{SIXTN, sXTRQ, is_on}
use Rattle.phases.specs.Status.{sMEMR, sOUT, sWO}
use Rattle.phases.specs.Control.{is_reading, is_writing}
use Rattle.memory.specs.Halves.{even_half, odd_half, word_of}
use Rattle.judgement.specs.Table.{is_cycle, most_datum}
use Rattle.judgement.specs.declared.event.Event.{Event}
use Rattle.events.specs.Machine.{Machine}
use Rattle.events.specs.Step.{refusal_in, after, answer_to}
use Rattle.events.specs.Promises.{Moves, word_in, code_there}
use Rattle.events.specs.declared.answers.Answer.{Answer}
use Rattle.events.proofs.Refused.{answers_refusal, accepted_is_well_formed}
use Rattle.events.proofs.EachCycle.{byte_read_does, opcode_fetch_does, byte_write_does, word_read_does, word_write_does, input_does, output_does}
use Rattle.pins.specs.BusLine.{is_driven}
use Rattle.pins.specs.Pin.{Pin, pin_at, is_high}
use Rattle.pins.specs.Picture.{four_bits, pins_digit, level_digits, levels_of, driven_of, picture_of, lines_for}
use Rattle.pins.specs.Moments.{idle_moment, byte_moment, word_moment, even_moment, odd_of_pair, without_request, has_strobe, cycle_moments, moments_of}
use Rattle.pins.specs.Promises.{FiftyDigits, PinByRule, UndrivenIsLow, AddressOnPins, DisablingOnPins, OneLine, TwoLines, NoCycle, pictures, ShowsBus}
use Rattle.pins.specs.Promises.{IdlePictured, RefusedUnpictured}
use Rattle.pins.specs.Promises.{InCycle, OnItsPins, OnBoth, Bytes, BytePictured, WordPictured, SplitPictured}
use Rattle.pins.specs.declared.moments.Moment.{Moment}
use Rattle.pins.proofs.DigitLaws.{four_bits_small, levels_long, picture_long, line_long, one_line, two_lines, no_picture}
use Rattle.pins.proofs.PinLaws.{high_is, driven_is, low_undriven}
use Rattle.pins.proofs.MomentLaws.{Fits, address_on, disabling_on_holds, bus_shown, no_cycle, in_cycle, on_do, on_di, on_both}
use Rattle.pins.proofs.AnswerLaws.{quiet_fits, word_strobe, word_cycles, byte_cycles, one_way, word_lies, strobe_cycle}
use Rattle.pins.proofs.AnswerLaws.{number, kind_known, fits_as, no_word, eight_word, sixteen_word, no_status, address_small}

-- ---- Every line

-- a digit for four pins is a digit
pin_digit : (test : Pin → Bool) (k : ℕ) → is_digit (pins_digit test k) ≡ true
pin_digit test k =
    let a = test (pin_at (4 * k + 1)) in
    let b = test (pin_at (4 * k + 2)) in
    let c = test (pin_at (4 * k + 3)) in
    let d = test (pin_at (4 * k + 4)) in
    (digits_read_back.0 (four_bits a b c d) (four_bits_small a b c d)).0

listed_digit : (test : Pin → Bool) (k : ℕ) → k < level_digits → is_digit (get_or (list_below (pins_digit test) level_digits) k 0) ≡ true
listed_digit test k h = rw (list_below_at (pins_digit test) level_digits k 0 h) (pin_digit test k)

digit_at : (m : Moment) (k : ℕ) → k < length (picture_of m) → is_digit (get_or (picture_of m) k 0) ≡ true
unfolding levels_of driven_of
digit_at m k h = go (dec_lt k level_digits)
  where
    go : Dec (k < level_digits) → is_digit (get_or (picture_of m) k 0) ≡ true
    go (yes front) =
        rw (get_or-append (levels_of m) (driven_of m) 0 k (omega (arith, front, levels_long m))) (listed_digit (λ pin. is_high pin m) k front)
    go (no behind) =
        let place : k ≡ length (levels_of m) + (k - level_digits) = omega (arith, behind, levels_long m) in
        let low : k - level_digits < level_digits = omega (arith, h, picture_long m, behind) in
        ap (λ (i : ℕ). is_digit (get_or (picture_of m) i 0)) place
        ∙ ap is_digit (get_or-append-add (levels_of m) (driven_of m) (k - level_digits) 0)
        ∙ listed_digit (λ pin. is_driven pin.line m) (k - level_digits) low

pub fifty_digits : FiftyDigits
fifty_digits m = (
  rw (eq-eqb (length (picture_of m)) 50 (picture_long m), every_of is_digit (picture_of m) (digit_at m)) refl,
  line_long m,
)

pub pin_by_rule : PinByRule
pin_by_rule m n low high = (driven_is m n low high, high_is m n low high)

pub undriven_is_low : UndrivenIsLow
undriven_is_low = low_undriven

pub address_on_pins : AddressOnPins
address_on_pins = address_on

pub disabling_on_pins : DisablingOnPins
disabling_on_pins = disabling_on_holds

-- ---- The lines of an event

pub one_picture : (text : List ℕ) (x : Moment) (Shows : List ℕ → Type 0) → text ≡ lines_for (x ∷ []) → Shows (picture_of x) → OneLine text Shows
one_picture text x Shows is shows = record { line = picture_of x; is = is ∙ one_line x; digits = (fifty_digits x).0; shows = shows }

pub two_pictures : (text : List ℕ) (x y : Moment) (First Second : List ℕ → Type 0) → text ≡ lines_for (x ∷ y ∷ []) → First (picture_of x) → Second
    (picture_of y)
    → TwoLines text First Second
two_pictures text x y First Second is first second = record {
  first = picture_of x;
  second = picture_of y;
  is = is ∙ two_lines x y;
  first_digits = (fifty_digits x).0;
  second_digits = (fifty_digits y).0;
  first_shows = first;
  second_shows = second;
}

module _ (m : Machine) (event : Event) (ok : refusal_in m event ≡ 0) where
  taken : eqb (answer_to m event).refusal 0 ≡ true
  taken = eq-eqb (answer_to m event).refusal 0 (number m event ok)

  pub strobe : (b : Bool) → is_cycle event.kind ≡ b → has_strobe event.kind ≡ b
  strobe b e = strobe_cycle event.kind (kind_known m event ok) ∙ e

  -- which moments are pictured
  pub idle_moments : is_cycle event.kind ≡ false → pictures m event ≡ lines_for (idle_moment event (answer_to m event) ∷ [])
  unfolding moments_of
  idle_moments none = rw (taken, strobe false none) refl

  pub cycle_moments_holds : is_cycle event.kind ≡ true → pictures m event ≡ lines_for (cycle_moments event (answer_to m event))
  unfolding moments_of
  cycle_moments_holds cycle = rw (taken, strobe true cycle) refl

  -- only a cycle has sOUT
  quiet_out : is_cycle event.kind ≡ false → is_on sOUT (answer_to m event).status ≡ false
  quiet_out none = rw (no_status m event ok none) refl

  pub idle_shown : is_cycle event.kind ≡ false → OneLine (pictures m event) (λ line. ShowsBus m event line × NoCycle line)
  idle_shown none =
      let not_word = no_word m event ok (word_strobe event.kind (kind_known m event ok) (strobe false none)) in
      let fits = fits_as m event ok 0 (inl refl) not_word 0 0 0 false false in
      one_picture (pictures m event) (idle_moment event (answer_to m event)) _ (idle_moments none) (
        bus_shown (idle_moment event (answer_to m event)) (answer_to m event).phase event.kind 0 fits (λ e. quiet_out none),
        no_cycle (idle_moment event (answer_to m event)) (answer_to m event).phase event.kind fits (strobe false none) refl refl refl,
      )

pub idle_pictured : IdlePictured
idle_pictured m event ok none = idle_shown m event ok none

pub refused_unpictured : RefusedUnpictured
refused_unpictured m event refused = no_picture event (answer_to m event) (λ e. refused (sym (answers_refusal m event) ∙ e))

-- ---- Cycles

-- both ways round
either_way : (b c d : Bool) → (b || c) ≡ d → (c || b) ≡ d
either_way true true d e = e
either_way true false d e = e
either_way false true d e = e
either_way false false d e = e

-- a read doesn't write
pub not_both : (b c : Bool) → (b && c) ≡ false → b ≡ true → c ≡ false
not_both true c e is = e
not_both false c e is = absurd (false≢true is)

other_way : (b c : Bool) → (b && c) ≡ false → c ≡ true → b ≡ false
other_way true true e is = absurd (true≢false e)
other_way true false e is = absurd (false≢true is)
other_way false c e is = refl

-- a byte cycle's moment carries its byte on its pins
module _ (event : Event) (answer : Answer) (signals address byte : ℕ) (small : byte < 2 ^ 8) where
  pub on_its_pins : OnItsPins event.kind byte (picture_of (byte_moment event answer signals address byte))
  on_its_pins = (
    λ reads. on_di (byte_moment event answer signals address byte) (not_both (is_reading event.kind) (is_writing event.kind) apart reads) reads small,
    λ writes. on_do (byte_moment event answer signals address byte) writes (other_way (is_reading event.kind) (is_writing event.kind) apart writes) small,
  )
    where
      apart : (is_reading event.kind && is_writing event.kind) ≡ false
      apart = one_way event.kind

module _ (m : Machine) (event : Event) (ok : refusal_in m event ≡ 0) where
  pub on_cycle : is_cycle event.kind ≡ true → (is_writing event.kind || is_reading event.kind) ≡ true
  on_cycle cycle = either_way (is_reading event.kind) (is_writing event.kind) true (strobe m event ok true cycle)

  -- a byte cycle, by what a word adds: as it is, or one of two
  byte_shown : is_cycle event.kind ≡ true → (w signals : ℕ) (address byte : ℕ)
      → Fits (byte_moment event (answer_to m event) signals address byte) (answer_to m event).phase event.kind w → address < 2 ^ 24 → byte < 2 ^ 8
      → ShowsBus m event (picture_of (byte_moment event (answer_to m event) signals address byte))
      × (InCycle event.kind address (is_on sXTRQ w) (is_on SIXTN w) (picture_of (byte_moment event (answer_to m event) signals address byte))
      × OnItsPins event.kind byte (picture_of (byte_moment event (answer_to m event) signals address byte)))
  byte_shown cycle w signals address byte fits reach small =
      let x = byte_moment event (answer_to m event) signals address byte in
      let on = on_cycle cycle in (
        bus_shown x (answer_to m event).phase event.kind w fits (λ off. absurd (true≢false (sym on ∙ off))),
        (
          in_cycle x (answer_to m event).phase event.kind w fits (strobe m event ok true cycle) on reach,
          on_its_pins event (answer_to m event) signals address byte small,
        ),
      )

  -- the datum of a byte cycle is a byte
  byte_datum : Bytes m → is_cycle event.kind ≡ true → Kind.is_word event.kind ≡ false → (answer_to m event).datum < 0x100
  byte_datum bytes cycle narrow =
      ⊎_elim (λ k. told (byte_read_does m event (k, ok)).answers (bytes.memory event.address))
      (⊎_elim (λ k. told (opcode_fetch_does m event (k, ok)).answers (bytes.memory event.address))
      (⊎_elim (λ k. told (byte_write_does m event (k, ok)).answers (listed (inl k)))
      (⊎_elim (λ k. told (input_does m event (k, ok)).answers (bytes.ports event.address))
      (λ k. told (output_does m event (k, ok)).answers (listed (inr k))))))
      (byte_cycles event.kind (kind_known m event ok) (strobe m event ok true cycle) narrow)
    where
      told : {b : Answer} {n : ℕ} → answer_to m event ≡ b → b.datum < n → (answer_to m event).datum < n
      told {b} {n} e h = subst (λ (c : Answer). c.datum < n) (sym e) h

      listed : (event.kind ≡ Kind.byte_write) ⊎ (event.kind ≡ Kind.output) → event.datum < 0x100
      listed k = let most = (accepted_is_well_formed m event ok).byte k in omega (arith, most)

pub byte_pictured : BytePictured
byte_pictured m event bytes ok cycle narrow =
    let a = answer_to m event in
    let small = byte_datum m event ok bytes cycle narrow in
    let same : odd_half a.datum ≡ a.datum = mod-eq_of_lt small in
    let x = byte_moment event a a.signals event.address a.datum in
    let fits = fits_as m event ok 0 (inl refl) (no_word m event ok narrow) event.address a.datum a.datum
    (is_writing event.kind) (is_reading event.kind) in
    one_picture (pictures m event) x _
    (cycle_moments_holds m event ok cycle ∙ rw narrow (ap (λ (b : ℕ). lines_for (byte_moment event a a.signals event.address b ∷ [])) same))
    (byte_shown m event ok cycle 0 a.signals event.address a.datum fits (address_small m event ok cycle) (omega (arith, small)))

-- ---- Words

-- in how many cycles a word went, and its halves in a memory
pub record Halved (answer : Answer) (memory : List ℕ) (address cycles : ℕ) : Type 0 where
  pub counted : answer.cycles ≡ cycles
  pub even : even_half answer.datum ≡ get_or memory address 0
  pub odd : odd_half answer.datum ≡ get_or memory (address + 1) 0
  pub small : answer.datum < 0x10000

-- of an accepted word, in the memory afterwards
abbrev WordMoved : Machine → Event → ℕ → Type 0
WordMoved m event cycles = Halved (answer_to m event) (after m event).memory event.address cycles

word_most : most_datum Kind.word_write ≡ 0xFFFF
unfolding beside
word_most = refl

module _ (m : Machine) (event : Event) (ok : refusal_in m event ≡ 0) where
  read_moved : Bytes m → (cycles signals : ℕ) → event.kind ≡ Kind.word_read
      → Moves m event m.memory m.ports signals sMEMR
      (word_in cycles (word_of (get_or m.memory event.address 0) (get_or m.memory (event.address + 1) 0)))
      → WordMoved m event cycles
  read_moved bytes cycles signals kind does =
      let e = bytes.memory event.address in
      let o = bytes.memory (event.address + 1) in
      rw (does.answers, ap (λ (n : Machine). n.memory) does.leaves) (record {
        counted = refl;
        even = omega (arith, o);
        odd = omega (arith, o);
        small = omega (arith, e, o);
      })

  write_moved : (cycles signals : ℕ) → event.kind ≡ Kind.word_write
      → Moves m event
      (set (set m.memory event.address (even_half event.datum)) (event.address + 1) (odd_half event.datum)) m.ports signals sWO
      (word_in cycles event.datum)
      → WordMoved m event cycles
  write_moved cycles signals kind does =
      let a = event.address in
      let lies = word_lies m event ok (rw kind refl) in
      let once = set m.memory a (even_half event.datum) in
      let long = length-set m.memory a (even_half event.datum) in
      let second = get_d_set once (a + 1) a (odd_half event.datum) (omega (arith, lies.within, long)) in
      let first = get_d_set m.memory a a (even_half event.datum) (omega (arith, lies.within)) in
      let third = get_d_set once (a + 1) (a + 1) (odd_half event.datum) (omega (arith, lies.within, long)) in
      let apart : eqb a (a + 1) ≡ false = ne_eqb a (a + 1) (λ e. omega (arith, e)) in
      let most = (accepted_is_well_formed m event ok).datum in
      let listed : most_datum event.kind ≡ 0xFFFF = rw kind word_most in
      rw (does.answers, ap (λ (n : Machine). n.memory) does.leaves) (record {
        counted = refl;
        even = sym (second ∙ rw apart (first ∙ rw (eq-eqb a a refl) refl));
        odd = sym (third ∙ rw (eq-eqb (a + 1) (a + 1) refl) refl);
        small = omega (arith, most, listed);
      })

  -- by its page
  eight_moved : Bytes m → Kind.is_word event.kind ≡ true → code_there m event ≡ 1 → WordMoved m event 2
  eight_moved bytes word code =
      ⊎_elim
      (λ k.
      ⊎_elim (λ does. read_moved bytes 2 sXTRQ k does.1) (λ other. absurd (omega (arith, code, other.0))) (word_read_does m event (k, ok)))
      (λ k. ⊎_elim (λ does. write_moved 2 sXTRQ k does.1) (λ other. absurd (omega (arith, code, other.0))) (word_write_does m event (k, ok)))
      (word_cycles event.kind word)

  sixteen_moved : Bytes m → Kind.is_word event.kind ≡ true → code_there m event ≡ 2 → WordMoved m event 1
  sixteen_moved bytes word code =
      ⊎_elim
      (λ k.
      ⊎_elim (λ other. absurd (omega (arith, code, other.0))) (λ does. read_moved bytes 1 (sXTRQ + SIXTN) k does.1) (word_read_does m event (k, ok)))
      (λ k. ⊎_elim (λ other. absurd (omega (arith, code, other.0))) (λ does. write_moved 1 (sXTRQ + SIXTN) k does.1) (word_write_does m event (k, ok)))
      (word_cycles event.kind word)

  pub word_cycle : Kind.is_word event.kind ≡ true → is_cycle event.kind ≡ true
  word_cycle word =
      ⊎_elim (λ cycle. cycle)
      (λ none. absurd (true≢false (sym word ∙ word_strobe event.kind (kind_known m event ok) (strobe m event ok false none))))
      (true_or_false (is_cycle event.kind))

pub word_pictured : WordPictured
word_pictured m event bytes ok word code =
    let a = answer_to m event in
    let moved = sixteen_moved m event ok bytes word code in
    let cycle = word_cycle m event ok word in
    let x = word_moment event a in
    let fits = fits_as m event ok 0xC0 (inr (inr refl)) (sixteen_word m event ok word code) event.address (even_half a.datum) (odd_half a.datum)
    true true in
    one_picture (pictures m event) x _
    (cycle_moments_holds m event ok cycle ∙ rw (word, ap (λ (n : ℕ). eqb n 2) moved.counted) refl) (
      bus_shown x a.phase event.kind 0xC0 fits (λ off. absurd (true≢false off)),
      (
        in_cycle x a.phase event.kind 0xC0 fits (strobe m event ok true cycle) refl (address_small m event ok cycle),
        subst (λ (e : ℕ). OnBoth e (get_or (after m event).memory (event.address + 1) 0) (picture_of x)) moved.even
            (subst (λ (o : ℕ). OnBoth (even_half a.datum) o (picture_of x)) moved.odd
            (on_both x refl refl (omega (arith, moved.small)) (omega arith))),
      ),
    )

pub split_pictured : SplitPictured
split_pictured m event bytes ok word code =
    let a = answer_to m event in
    let moved = eight_moved m event ok bytes word code in
    let cycle = word_cycle m event ok word in
    let lies = word_lies m event ok word in
    let reach = address_small m event ok cycle in
    let next : odd_of_pair event.address ≡ event.address + 1 = omega (arith, lies.even) in
    let eight = eight_word m event ok word code in
    let first_fits = fits_as m event ok 0x80 (inr (inl refl)) eight event.address (even_half a.datum) (even_half a.datum)
    (is_writing event.kind) (is_reading event.kind) in
    let second_fits = quiet_fits m event ok eight (event.address + 1) (odd_half a.datum) (is_writing event.kind) (is_reading event.kind) in
    let first = byte_shown m event ok cycle 0x80 a.signals event.address (even_half a.datum) first_fits reach (omega (arith, moved.small)) in
    let second = byte_shown m event ok cycle 0 (without_request a.signals) (event.address + 1) (odd_half a.datum) second_fits
    (omega (arith, lies.low)) (omega arith) in
    two_pictures (pictures m event) (even_moment event a) (byte_moment event a (without_request a.signals) (event.address + 1) (odd_half a.datum)) _ _
    (cycle_moments_holds m event ok cycle
    ∙ rw (word, ap (λ (n : ℕ). eqb n 2) moved.counted)
    (ap (λ (n : ℕ). lines_for (even_moment event a ∷ byte_moment event a (without_request a.signals) n (odd_half a.datum) ∷ [])) next))
    (first.0, (first.1.0, subst (λ (e : ℕ). OnItsPins event.kind e (picture_of (even_moment event a))) moved.even first.1.1)) (
      second.0,
      (
        second.1.0,
        subst (λ (o : ℕ). OnItsPins event.kind o (picture_of (byte_moment event a (without_request a.signals) (event.address + 1)
            (odd_half a.datum)))) moved.odd second.1.1,
      ),
    )
