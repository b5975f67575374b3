-- The outcome line reads back, and the lines of the sixteen cards stand in their order.
use Prim.Native.Nat.{ℕ, zero, suc, ◌+◌, ◌*◌, ◌<◌, ◌≤◌}
use mathlib.Core.Path.{◌≡◌, refl, sym, ap, ap₂, ◌∙◌}
use mathlib.Core.List.{List, [], ◌∷◌, ◌++◌}
use native.Mathlib.Nat.{not-suc-le-zero}
use native.Mathlib.Decide.{dec_lt}
use native.Mathlib.Omega.{arith}
use lib.ListN.{length, take, drop, length-append, length-drop}
use lib.Seq.{sets, take_all, take-append-le, drop-append-le, drop_at}
use borrow.Author.Tests.{le-leb, lt-leb}
use Rattle.words.proofs.PartLaws.{laid_long, put_front}
use Rattle.bus.specs.declared.state.Bus.{Bus}
use Rattle.outcome.specs.Outcomes.{figures, figures_for}
use Rattle.outcome.specs.declared.figures.Figures.{Figures}
use Rattle.text.specs.Digits.{number_of, digits_of}
use Rattle.text.specs.OutcomeLine.{
  outcome_fields,
  outcome_parts,
  outcome_digits,
  outcome_line,
  outcome_length,
  outcomes_below,
  outcome_lines,
  outcomes_length,
  outcomes_put,
}
use Rattle.text.specs.Promises.{outcome_on_line, OutcomeReadsBack, OutcomesInOrder, OnlyOutcomesWritten}
use Rattle.text.proofs.DigitLaws.{digits_sized}
use Rattle.text.proofs.ReadBack.{numbers_back, fields_digits, right_digits}

-- ---- One line

pub outcome_long : (f : Figures) → length (outcome_line f) ≡ outcome_length
unfolding digits_of
outcome_long f = refl

outcome_front : (f : Figures) → (take 8 (outcome_line f) ≡ outcome_digits f) × (drop 8 (outcome_line f) ≡ 0x0A ∷ [])
unfolding digits_of
outcome_front f = (refl, refl)

outcome_parts_holds : (f : Figures)
    → outcome_on_line (outcome_line f)
    ≡ figures (number_of (digits_of 2 f.answer)) (number_of (digits_of 2 f.card)) (number_of (digits_of 2 f.line)) (number_of (digits_of 2 f.rival))
unfolding digits_of
outcome_parts_holds f = refl

pub outcome_reads_back : OutcomeReadsBack
outcome_reads_back f = (
  (
    rw (outcome_front f).0 (
        right_digits 8 (outcome_digits f) (laid_long f outcome_parts (digits_sized outcome_fields f)) (fields_digits outcome_fields f)),
    (outcome_front f).1,
  ),
  λ fits.
      outcome_parts_holds f
      ∙ rw (
        numbers_back 2 f.answer fits.answer,
        numbers_back 2 f.card fits.card,
        numbers_back 2 f.line fits.line,
        numbers_back 2 f.rival fits.rival,
      ) refl,
)

-- ---- The lines of several cards

pub outcomes_next : (bus : Bus) (card : ℕ) → outcomes_below bus (suc card) ≡ outcomes_below bus card ++ outcome_line (figures_for bus card)
unfolding outcomes_below
outcomes_next bus card = refl

pub outcomes_long : (bus : Bus) (n : ℕ) → length (outcomes_below bus n) ≡ n * 9
unfolding outcomes_below
outcomes_long bus zero = refl
outcomes_long bus (suc n) =
    length-append (outcomes_below bus n) (outcome_line (figures_for bus n))
    ∙ ap₂ (λ (a b : ℕ). a + b) (outcomes_long bus n) (outcome_long (figures_for bus n))
    ∙ omega arith

-- each card's line
line_at : (bus : Bus) (n card : ℕ) → card < n → take 9 (drop (card * 9) (outcomes_below bus n)) ≡ outcome_line (figures_for bus card)
line_at bus zero card h = absurd (not-suc-le-zero h)
line_at bus (suc n) card h = go (dec_lt card n) (line_at bus n card)
  where
    front : List ℕ
    front = outcomes_below bus n

    line : List ℕ
    line = outcome_line (figures_for bus n)

    go : Dec (card < n) → (card < n → take 9 (drop (card * 9) (outcomes_below bus n)) ≡ outcome_line (figures_for bus card))
        → take 9 (drop (card * 9) (outcomes_below bus (suc n))) ≡ outcome_line (figures_for bus card)
    go (yes below) rest =
        let long = outcomes_long bus n in
        ap (λ (l : List ℕ). take 9 (drop (card * 9) l)) (outcomes_next bus n)
        ∙ ap (take 9) (drop-append-le (card * 9) front line (omega (arith, below, long)))
        ∙ take-append-le 9 (drop (card * 9) front) line (omega (arith, below, long, length-drop (card * 9) front))
        ∙ rest below
    go (no last) rest =
        let same : card ≡ n = omega arith in
        ap (λ (l : List ℕ). take 9 (drop (card * 9) l)) (outcomes_next bus n)
        ∙ ap (take 9) (drop_at front line (card * 9) (outcomes_long bus n ∙ omega (arith, same)))
        ∙ take_all 9 line (omega (arith, outcome_long (figures_for bus n)))
        ∙ ap (λ (k : ℕ). outcome_line (figures_for bus k)) (sym same)

pub outcomes_in_order : OutcomesInOrder
outcomes_in_order bus = (outcomes_long bus 16, line_at bus 16)

-- ---- Put into a place

pub outcomes_fit : (bus : Bus) (place : List ℕ) → outcomes_length ≤ length place → outcomes_put bus place ≡ sets place 0 (outcome_lines bus)
outcomes_fit bus place room = rw (le-leb outcomes_length (length place) room) refl

pub only_outcomes_written : OnlyOutcomesWritten
only_outcomes_written bus place = (
  λ room.
      let long = outcomes_long bus 16 in
      let put = put_front place (outcome_lines bus) (omega (arith, room, long)) in
      rw (outcomes_fit bus place room) (rw long at put.0, rw long at put.1),
  λ short. rw (lt-leb outcomes_length (length place) short) refl,
)
