-- Digits found one by one, the two parts of the answer line, and the outcome line.
use mathlib.Core.Path.{◌≡◌, refl, sym, ap, ap₂, ◌∙◌}
use mathlib.Core.List.{List, [], ◌∷◌, ◌++◌, append_assoc}
use Prim.Native.Nat.{ℕ, ◌+◌, ◌*◌, ◌/◌, ◌%◌, ◌<◌, ◌≤◌}
use native.Mathlib.Numerals.{add-one}
use native.Mathlib.Omega.{arith}
use lib.ListN.{length, set, take, drop}
use lib.Seq.{sets, sets-eq, length-sets, drop-drop}
use Rattle.words.proofs.PartLaws.{sets_all, sets_append}
use Rattle.events.specs.declared.answers.Answer.{Answer}
use Rattle.bus.specs.declared.state.Bus.{Bus}
use Rattle.outcome.specs.Outcomes.{figures_for}
use Rattle.outcome.specs.declared.figures.Figures.{Figures}
use Rattle.text.specs.Digits.{digit_of, digits_of}
use Rattle.text.specs.Newlines.{newline}
use Rattle.text.specs.AnswerLine.{answer_line, answer_length}
use Rattle.text.specs.OutcomeLine.{outcome_line, outcomes_below, outcomes_length}
use Rattle.text.proofs.OutcomeLines.{outcome_long, outcomes_next, outcomes_long}

pub two_found : (n : ℕ) {high low : ℕ} → high ≡ digit_of (n / 16 % 16) → low ≡ digit_of (n % 16) → high ∷ low ∷ [] ≡ digits_of 2 n
unfolding digits_of
two_found n h l = rw (h, l) refl

-- four digits are two and two
pub four_found : (n : ℕ) {high low : List ℕ} → high ≡ digits_of 2 (n / 256) → low ≡ digits_of 2 (n % 256) → high ++ low ≡ digits_of 4 n
unfolding digits_of
four_found n h l =
    let a : n / 256 / 16 % 16 ≡ n / 16 / 16 / 16 % 16 = omega arith in
    let b : n / 256 % 16 ≡ n / 16 / 16 % 16 = omega arith in
    let c : n % 256 / 16 % 16 ≡ n / 16 % 16 = omega arith in
    let d : n % 256 % 16 ≡ n % 16 = omega arith in
    ap₂ ◌++◌ h l ∙ rw (a, b, c, d) refl

-- the line's two parts
pub line_put : {first second : List ℕ} (a : Answer) → first ≡ digits_of 2 a.refusal ++ digits_of 2 a.phase ++ digits_of 2 a.granted ++ digits_of 2 a.lines
    → second ≡ digits_of 2 a.signals ++ digits_of 2 a.status ++ digits_of 2 a.cycles ++ digits_of 4 a.datum ++ newline ∷ []
    → first ++ second ≡ answer_line a
unfolding digits_of
line_put a p q = ap₂ ◌++◌ p q

-- the outcome line's digits, and its newline behind them
pub outcome_put : {numbers : List ℕ} (rest : List ℕ) (f : Figures) → length rest ≡ 1
    → numbers ≡ digits_of 2 f.answer ++ digits_of 2 f.card ++ digits_of 2 f.line ++ digits_of 2 f.rival
    → numbers ++ set rest 0 newline ≡ outcome_line f
unfolding digits_of
outcome_put rest f one p = ap₂ ◌++◌ p (sets_all rest (newline ∷ []) (sym one))

-- what is put at the front of a place, and behind it the rest of the place
pub put_in_front : (place bytes : List ℕ) {n : ℕ} → length bytes ≡ n → n ≤ length place → bytes ++ drop n place ≡ sets place 0 bytes
put_in_front place bytes {n} long room =
    let behind : n ≡ 0 + length bytes = omega (arith, long) in
    ap (λ (k : ℕ). bytes ++ drop k place) behind ∙ sym (sets-eq bytes place 0 (omega (arith, long, room)))

pub answer_long : (a : Answer) → length (answer_line a) ≡ answer_length
unfolding digits_of
answer_long a = refl

-- ---- The lines of several cards

module _ (bus : Bus) (place now : List ℕ) (card : ℕ) (so : now ≡ sets place 0 (outcomes_below bus card)) where
  pub still_long : length now ≡ length place
  still_long = ap length so ∙ length-sets place 0 (outcomes_below bus card)

  -- the next card's behind those of the cards before it
  pub line_next : (line : List ℕ) → card < 16 → outcomes_length ≤ length place → line ≡ outcome_line (figures_for bus card)
      → take (card * 9) now ++ (line ++ drop 9 (drop (card * 9) now)) ≡ sets place 0 (outcomes_below bus (card + 1))
  line_next line low room is =
      let long = ap length is ∙ outcome_long (figures_for bus card) in
      let behind : card * 9 ≡ 0 + length (outcomes_below bus card) = omega (arith, outcomes_long bus card) in
      let end : card * 9 + 9 ≡ card * 9 + length line = omega (arith, long) in
      ap (λ (l : List ℕ). take (card * 9) now ++ (line ++ l)) (drop-drop 9 (card * 9) now ∙ ap (λ (k : ℕ). drop k now) end)
      ∙ sym (append_assoc (take (card * 9) now) line (drop (card * 9 + length line) now))
      ∙ sym (sets-eq line now (card * 9) (omega (arith, long, low, room, still_long)))
      ∙ ap₂ (λ (l m : List ℕ). sets l (card * 9) m) so is
      ∙ ap (λ (k : ℕ). sets (sets place 0 (outcomes_below bus card)) k (outcome_line (figures_for bus card))) behind
      ∙ sym (sets_append (outcomes_below bus card) (outcome_line (figures_for bus card)) place 0)
      ∙ ap (sets place 0) (sym (outcomes_next bus card) ∙ ap (outcomes_below bus) (sym (add-one card)))
