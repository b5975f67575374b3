-- The first newline of a text, and its lines.
use mathlib.Core.Path.{◌≡◌, refl, sym, ap, subst, ◌∙◌}
use mathlib.Core.Logic.{⊎_elim}
use mathlib.Core.Bool.{true, false, false≢true}
use mathlib.Core.List.{List, [], ◌∷◌, ◌++◌}
use Prim.Native.Nat.{ℕ, zero, suc, ◌+◌, ◌<◌, ◌≤◌}
use native.Mathlib.Omega.{arith}
use lib.Dec.{eqb}
use lib.ListN.{length, get_or, take, drop, length-append}
use lib.Seq.{drop-cons, drop-length, take_at, get_or_at}
use borrow.Author.Tests.{eqb-true, eqb-false, eq-eqb, ne_eqb}
use Rattle.std.specs.Prelude.{Some, None}
use Rattle.std.specs.List.{position, position_or_len}
use Rattle.std.proofs.lemmas.Grind.{common_steps}
use Rattle.std.proofs.lemmas.List.Quantifiers.{position-Some}
use Rattle.std.proofs.lemmas.List.Recursion.{is_position_or_len}
use Rattle.words.proofs.TestLaws.{true_or_false, else_of, neither_of}
use Rattle.text.specs.Newlines.{newline, has_newline, first_line, rest_of}

-- ---- The first newline

-- what is true of [], of a newline with anything behind it, and of another byte before a text of which it is true, is true of every text
pub by_newline : (P : List ℕ → Type 0) → P [] → ((b : ℕ) (text : List ℕ) → eqb b newline ≡ true → P (b ∷ text))
    → ((b : ℕ) (text : List ℕ) → eqb b newline ≡ false → P text → P (b ∷ text)) → (text : List ℕ) → P text
by_newline P none ends goes [] = none
by_newline P none ends goes (b ∷ text) =
    ⊎_elim (λ t. ends b text t) (λ t. goes b text t (by_newline P none ends goes text)) (true_or_false (eqb b newline))

-- a text with a newline is its first line, the newline and the rest
pub splits : (text : List ℕ) → has_newline text ≡ true → text ≡ first_line text ++ newline ∷ rest_of text
unfolding has_newline first_line rest_of
splits =
    by_newline (λ text. has_newline text ≡ true → text ≡ first_line text ++ newline ∷ rest_of text)
    (λ e. absurd (false≢true e))
    (λ b text t e. rw t (ap (λ (x : ℕ). x ∷ text) (eqb-true b newline t)))
    (λ b text t so e. rw t (ap (λ (l : List ℕ). b ∷ l) (so (else_of (eqb b newline) (has_newline text) e t))))

-- a text without one is its first line
pub unended : (text : List ℕ) → has_newline text ≡ false → first_line text ≡ text
unfolding has_newline first_line
unended =
    by_newline (λ text. has_newline text ≡ false → first_line text ≡ text)
    (λ e. refl)
    (λ b text t e. absurd (false≢true (sym (neither_of (eqb b newline) (has_newline text) e).0 ∙ t)))
    (λ b text t so e. rw t (ap (λ (l : List ℕ). b ∷ l) (so (neither_of (eqb b newline) (has_newline text) e).1)))

-- the first line is within the text, and shorter exactly where there is a newline
pub line_within : (text : List ℕ) → has_newline text ≡ true → length (first_line text) < length text
line_within text e =
    subst (λ (l : List ℕ). length (first_line text) < length l) (sym (splits text e))
    (omega (arith, length-append (first_line text) (newline ∷ rest_of text)))

-- ---- Where the first line ends, looked for byte by byte

-- the code asks for a newline by where the line ends
pub ends_within : (text : List ℕ) (end : ℕ) → end ≡ length (first_line text) → end < length text → has_newline text ≡ true
ends_within text end e within =
    ⊎_elim (λ has. has) (λ none. absurd (omega (arith, e, within, ap length (unended text none)))) (true_or_false (has_newline text))

pub ends_beyond : (text : List ℕ) (end : ℕ) → end ≡ length (first_line text) → length text ≤ end → has_newline text ≡ false
ends_beyond text end e beyond =
    ⊎_elim (λ has. absurd (omega (arith, e, beyond, line_within text has))) (λ none. none) (true_or_false (has_newline text))

-- up to there stands the first line
pub line_front : (text : List ℕ) (end : ℕ) → end ≡ length (first_line text) → end < length text → take end text ≡ first_line text
line_front text end e within =
    ap (take end) (splits text (ends_within text end e within)) ∙ take_at (first_line text) (newline ∷ rest_of text) end (sym e)

pub line_at : (text : List ℕ) (i : ℕ) → i < length text → get_or text i 0 ≡ newline → first_line (drop i text) ≡ []
unfolding first_line
line_at text i h e = ap first_line (drop-cons text i 0 h) ∙ rw (eq-eqb (get_or text i 0) newline e) refl

pub line_on : (text : List ℕ) (i : ℕ) → i < length text → (get_or text i 0 ≡ newline → ⊥)
    → length (first_line (drop i text)) ≡ suc (length (first_line (drop (suc i) text)))
unfolding first_line
line_on text i h e = ap (λ (l : List ℕ). length (first_line l)) (drop-cons text i 0 h) ∙ rw (ne_eqb (get_or text i 0) newline e) refl

pub line_none : (text : List ℕ) → first_line (drop (length text) text) ≡ []
unfolding first_line
line_none text = ap first_line (drop-length text)

pub line_short : (text : List ℕ) → length (first_line text) ≤ length text
line_short text =
    ⊎_elim (λ has. omega (arith, line_within text has)) (λ none. omega (arith, ap length (unended text none))) (true_or_false (has_newline text))

-- behind the first line stands a newline
pub newline_at : (text : List ℕ) → has_newline text ≡ true → get_or text (length (first_line text)) 0 ≡ newline
newline_at text has =
    ap (λ (l : List ℕ). get_or l (length (first_line text)) 0) (splits text has)
    ∙ get_or_at (first_line text) newline (rest_of text) 0 (length (first_line text)) refl

-- so a line that is as long as the text is the text
pub whole_line : (line : List ℕ) → length (first_line line) ≡ length line → first_line line ≡ line
whole_line line size =
    ⊎_elim (λ has. absurd (omega (arith, size, line_within line has))) (unended line) (true_or_false (has_newline line))

-- a text with a newline at a place has its first line before it
pub first_before : (k : ℕ) (text : List ℕ) → k < length text → get_or text k 0 ≡ newline → (has_newline text ≡ true) × (first_line (take k text) ≡
    first_line text)
unfolding first_line has_newline
first_before k [] h ends = absurd (omega (arith, h))
first_before zero (b ∷ text) h ends = rw (eq-eqb b newline ends) (refl, refl)
first_before (suc k) (b ∷ text) h ends =
    ⊎_elim
    (λ t. rw t (refl, refl))
    (λ t. let so = first_before k text (omega (arith, h)) ends in rw t (so.0, ap (λ (l : List ℕ). b ∷ l) so.1))
    (true_or_false (eqb b newline))

-- bytes that are no newline are passed over
pub line_past : (text : List ℕ) (k : ℕ) → k ≤ length text → ((i : ℕ) → i < k → get_or text i 0 ≡ newline → ⊥)
    → k + length (first_line (drop k text)) ≡ length (first_line text)
line_past text zero h none = omega arith
line_past text (suc k) h none =
    omega (arith, line_past text k (omega (arith, h)) (λ i below. none i (omega (arith, below))), line_on text k (omega (arith, h)) (none k (omega arith)))

-- where there is no newline, no byte is one
pub none_at : (text : List ℕ) → has_newline text ≡ false → (i : ℕ) → i < length text → get_or text i 0 ≡ newline → ⊥
unfolding has_newline
none_at [] none i h e = omega (arith, h)
none_at (b ∷ text) none zero h e = eqb-false b newline (neither_of (eqb b newline) (has_newline text) none).0 e
none_at (b ∷ text) none (suc i) h e = none_at text (neither_of (eqb b newline) (has_newline text) none).1 i (omega (arith, h)) e

-- where the code looks for the first newline
ends_at : (text : List ℕ) → position_or_len (λ b. eqb b newline) text ≡ length (first_line text)
unfolding first_line
ends_at text =
    sym (is_position_or_len (λ l. length (first_line l)) (λ b. eqb b newline) refl
    (λ b l. ⊎_elim (λ t. rw t refl) (λ t. rw t (omega arith)) (true_or_false (eqb b newline))) text)

pub newline_somewhere : (text : List ℕ) (place : ℕ) → position (λ b. eqb b newline) text ≡ Some place
    → (has_newline text ≡ true) × (place ≡ length (first_line text))
newline_somewhere text place e =
    let first = position-Some (λ b. eqb b newline) text place 0 e in
    let is : place ≡ length (first_line text) = grind (arith, common_steps, ends_at text) in
    (ends_within text place is first.0, is)

pub newline_nowhere : (text : List ℕ) → position (λ b. eqb b newline) text ≡ None → has_newline text ≡ false
newline_nowhere text e = ends_beyond text (length (first_line text)) refl (grind (arith, common_steps, ends_at text))
