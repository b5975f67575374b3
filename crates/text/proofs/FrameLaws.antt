-- The line in so many bytes, and what a text begins with.
use mathlib.Core.Path.{◌≡◌, refl, sym, ap, subst, ◌∙◌}
use mathlib.Core.Logic.{⊎_elim}
use mathlib.Core.Bool.{Bool, true, false, cond}
use mathlib.Core.List.{List}
use Prim.Native.Nat.{ℕ, ◌+◌, ◌-◌, ◌<◌, ◌≤◌}
use native.Mathlib.Omega.{arith}
use lib.Dec.{eqb}
use lib.ListN.{length, get_or, take, drop, length-drop}
use lib.Seq.{take_all}
use borrow.Author.Tests.{eqb-true, eq-eqb, ne_eqb}
use Rattle.words.specs.Among.{every_listed}
use Rattle.words.proofs.TestLaws.{true_or_false, both_of}
use Rattle.words.proofs.ListLaws.{every_at}
use Rattle.judgement.specs.declared.event.Event.{Event}
use Rattle.text.specs.Digits.{is_digit, is_digits}
use Rattle.text.specs.Newlines.{newline, has_newline, first_line}
use Rattle.text.specs.Faults.{fault, leading_digits, fault_of}
use Rattle.text.specs.Frames.{BadLine, Line, Frame, Bad, Unended, event_digits, event_in, bad_line, line_in, next_line, line_number, line_column, line_bytes}
use Rattle.text.specs.Promises.{LinesTold}
use Rattle.text.proofs.DigitLaws.{digit_kinds}
use Rattle.text.proofs.FaultLaws.{leading_within, leading_digits_holds, leads_all, all_digits_of, no_fault}
use Rattle.text.proofs.NewlineLaws.{unended, line_within, newline_at, whole_line, line_past}

-- no digit ends a line
digit_stays : (b : ℕ) → is_digit b ≡ true → b ≡ newline → ⊥
digit_stays b e n = ⊎_elim (λ low. omega (arith, low.0, n)) (λ high. omega (arith, high.0, n)) (digit_kinds b e)

-- ---- A line, and what a text begins with

-- a line of digits has no newline in it
digits_whole : (line : List ℕ) → every_listed is_digit line ≡ true → first_line line ≡ line
digits_whole line all =
    ⊎_elim
    (λ has.
    let end = length (first_line line) in
    let here = line_within line has in
    absurd (digit_stays (get_or line end 0) (every_at is_digit line all end here) (newline_at line has)))
    (unended line)
    (true_or_false (has_newline line))

pub frame_in : (line : List ℕ) → length line ≡ event_digits → every_listed is_digit line ≡ true → Line.Frame (event_in line) ≡ line_in (first_line line)
frame_in line size all = rw (digits_whole line all, eq-eqb (length line) event_digits size, all) refl

pub bad_in : (line : List ℕ) → is_digits event_digits line ≡ false → Line.Bad (bad_line line) ≡ line_in line
bad_in line wrong = rw wrong refl

-- where so many bytes aren't all digits, neither is the line in them
pub not_framed : (line : List ℕ) → length line ≡ event_digits → (leading_digits line ≡ event_digits → ⊥) → is_digits event_digits (first_line line) ≡ false
not_framed line size fewer =
    ⊎_elim
    (λ right.
    let both = all_digits_of event_digits (first_line line) right in
    let whole = whole_line line (both.0 ∙ sym size) in
    absurd (fewer (leads_all line (subst (λ (l : List ℕ). every_listed is_digit l ≡ true) whole both.1) ∙ size)))
    (λ wrong. wrong)
    (true_or_false (is_digits event_digits (first_line line)))

-- digits are passed over where the end of a line is looked for
pub digits_passed : (line : List ℕ) (count leading end : ℕ) → length line ≡ count → leading ≡ leading_digits line
    → end ≡ length (first_line (take (count - leading) (drop leading line))) → leading + end ≡ length (first_line line)
digits_passed line count leading end size is found =
    let rest : take (count - leading) (drop leading line) ≡ drop leading line =
    take_all (count - leading) (drop leading line) (omega (arith, size, length-drop leading line)) in
    let past = line_past line leading (omega (arith, is, leading_within line))
    (λ k h. digit_stays (get_or line k 0) (leading_digits_holds line k (omega (arith, is, h)))) in
    omega (arith, found, ap (λ (l : List ℕ). length (first_line l)) rest, past)

-- where the newline doesn't stand at its place the length is wrong
pub not_at_place : (text : List ℕ) → has_newline text ≡ true → (event_digits < length text → get_or text event_digits 0 ≡ newline → ⊥)
    → length (first_line text) ≡ event_digits → ⊥
not_at_place text has none size =
    none (omega (arith, size, line_within text has)) (ap (λ (k : ℕ). get_or text k 0) (sym size) ∙ newline_at text has)

pub other_length : (line : List ℕ) → (length line ≡ event_digits → ⊥) → is_digits event_digits line ≡ false
other_length line other = rw (ne_eqb (length line) event_digits other) refl

pub ended_next : (text : List ℕ) → has_newline text ≡ true → line_in (first_line text) ≡ next_line text
ended_next text has = rw has refl

pub unended_next : (text : List ℕ) → length text ≤ length (first_line text) → Line.Unended ≡ next_line text
unended_next text whole =
    ⊎_elim (λ has. absurd (omega (arith, whole, line_within text has))) (λ has. rw has refl) (true_or_false (has_newline text))

-- ---- And back: what the next line says of the text

-- the event of a frame, or else another
abbrev event_from : Event → Line → Event
event_from other (Frame e) = e
event_from other (Bad bad) = other
event_from other Unended = other

-- what is told of a bad line, or else another
abbrev bad_from : BadLine → Line → BadLine
bad_from other (Frame e) = other
bad_from other (Bad bad) = bad
bad_from other Unended = other

-- which of the three ways a text begins
abbrev way_of : Line → ℕ
way_of (Frame e) = 0
way_of (Bad bad) = 1
way_of Unended = 2

-- the next line by the two tests
next_by : (text : List ℕ) (has right : Bool) → has_newline text ≡ has → is_digits event_digits (first_line text) ≡ right
    → next_line text ≡ cond has (cond right (Line.Frame (event_in (first_line text))) (Line.Bad (bad_line (first_line text)))) Line.Unended
next_by text has right h r = rw (h, r) refl

pub record Framed (text : List ℕ) (event : Event) : Type 0 where
  pub has : has_newline text ≡ true
  pub right : is_digits event_digits (first_line text) ≡ true
  pub same : event ≡ event_in (first_line text)

pub framed : (text : List ℕ) (event : Event) → Line.Frame event ≡ next_line text → Framed text event
framed text event e = go (has_newline text) refl (is_digits event_digits (first_line text)) refl
  where
    go : (has : Bool) → has_newline text ≡ has → (right : Bool) → is_digits event_digits (first_line text) ≡ right → Framed text event
    go true h true r = record { has = h; right = r; same = ap (event_from event) (e ∙ next_by text true true h r) }
    go true h false r = absurd (omega (arith, ap way_of (e ∙ next_by text true false h r)))
    go false h right r = absurd (omega (arith, ap way_of (e ∙ next_by text false right h r)))

pub record Spoilt (text : List ℕ) (bad : BadLine) : Type 0 where
  pub has : has_newline text ≡ true
  pub wrong : is_digits event_digits (first_line text) ≡ false
  pub same : bad ≡ bad_line (first_line text)

pub spoilt : (text : List ℕ) (bad : BadLine) → Line.Bad bad ≡ next_line text → Spoilt text bad
spoilt text bad e = go (has_newline text) refl (is_digits event_digits (first_line text)) refl
  where
    go : (has : Bool) → has_newline text ≡ has → (right : Bool) → is_digits event_digits (first_line text) ≡ right → Spoilt text bad
    go true h true r = absurd (omega (arith, ap way_of (e ∙ next_by text true true h r)))
    go true h false r = record { has = h; wrong = r; same = ap (bad_from bad) (e ∙ next_by text true false h r) }
    go false h right r = absurd (omega (arith, ap way_of (e ∙ next_by text false right h r)))

pub not_ended : (text : List ℕ) → Line.Unended ≡ next_line text → has_newline text ≡ false
not_ended text e = go (has_newline text) refl (is_digits event_digits (first_line text)) refl
  where
    go : (has : Bool) → has_newline text ≡ has → (right : Bool) → is_digits event_digits (first_line text) ≡ right → has_newline text ≡ false
    go true h true r = absurd (omega (arith, ap way_of (e ∙ next_by text true true h r)))
    go true h false r = absurd (omega (arith, ap way_of (e ∙ next_by text true false h r)))
    go false h right r = h

pub lines_told : LinesTold
lines_told text = (λ has. rw has (told (is_digits event_digits (first_line text)) refl), λ none. rw none refl)
  where
    line : Bool → Line
    line b = cond b (Frame (event_in (first_line text))) (Bad (bad_line (first_line text)))

    told : (b : Bool) → is_digits event_digits (first_line text) ≡ b
        → (fault (line_number (line (is_digits event_digits (first_line text)))) (line_column (line (is_digits event_digits (first_line text))))
        ≡ fault_of event_digits (first_line text))
        × (line_bytes (line (is_digits event_digits (first_line text))) ≡ length (first_line text) + 1)
    told true e =
        rw e (
          sym (no_fault event_digits (first_line text) e),
          ap (λ (n : ℕ). n + 1) (sym (eqb-true _ _ (both_of (eqb (length (first_line text)) event_digits) (every_listed is_digit (first_line text)) e).0)),
        )
    told false e = rw e (refl, refl)
