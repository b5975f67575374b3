-- Lines taken off a text: one at a time, and all that have room.
use mathlib.Core.Path.{◌≡◌, refl, sym, ap, ◌∙◌}
use mathlib.Core.Logic.{⊎_elim}
use mathlib.Core.Bool.{Bool, true, false, ◌&&◌, false≢true}
use mathlib.Core.List.{List, ◌∷◌, ◌++◌}
use Prim.Native.Nat.{ℕ, zero, suc, ◌+◌, ◌-◌, ◌<◌, ◌≤◌}
use native.Mathlib.Omega.{arith}
use lib.Dec.{leb}
use lib.ListN.{length, drop, length-drop, length-append}
use lib.Seq.{drop-append-add, drop-drop, sets}
use borrow.Author.Tests.{le-leb, lt-leb, leb-true}
use Rattle.events.specs.declared.answers.Answer.{Answer}
use Rattle.words.proofs.TestLaws.{true_or_false, both_of}
use Rattle.text.specs.Newlines.{newline, has_newline, first_line, rest_of}
use Rattle.text.specs.Digits.{digits_of}
use Rattle.text.specs.AnswerLine.{answer_line, answer_length, printed, bytes_put}
use Rattle.text.specs.Reading.{Reader, Taken, nothing_taken, line_off, and_then, takes_line, taken_within, taken_off}
use Rattle.text.proofs.NewlineLaws.{splits, line_within}

-- the rest stands behind the first line and its newline
pub rest_behind : (text : List ℕ) → has_newline text ≡ true → rest_of text ≡ drop (suc (length (first_line text))) text
rest_behind text e =
    let one : length (first_line text) + 1 ≡ suc (length (first_line text)) = omega arith in
    sym (
    ap (drop (suc (length (first_line text)))) (splits text e)
    ∙ ap (λ (k : ℕ). drop k (first_line text ++ newline ∷ rest_of text)) (sym one)
    ∙ drop-append-add (first_line text) (newline ∷ rest_of text) 1)

-- a line, its newline and the rest have all the bytes
pub rest_length : (text : List ℕ) → has_newline text ≡ true → suc (length (first_line text)) + length (rest_of text) ≡ length text
rest_length text e = omega (
  arith,
  ap length (rest_behind text e),
  length-drop (suc (length (first_line text))) text,
  line_within text e,
)

-- a text of no bytes has no line
short_unended : (text : List ℕ) → length text ≤ 0 → has_newline text ≡ false
short_unended text h =
    ⊎_elim (λ has. absurd (omega (arith, h, line_within text has))) (λ none. none) (true_or_false (has_newline text))

-- ---- Room

both_true : (a b : Bool) → a ≡ true → b ≡ true → (a && b) ≡ true
both_true a b ea eb = rw (ea, eb) refl

first_false : (a b : Bool) → a ≡ false → (a && b) ≡ false
first_false a b e = rw e refl

second_false : (a b : Bool) → b ≡ false → (a && b) ≡ false
second_false true b e = e
second_false false b e = refl

module _ {S : Type 0} (r : Reader S) where
  pub takes_line_holds : (room : ℕ) (text : List ℕ) → has_newline text ≡ true → r.most ≤ room → takes_line r room text ≡ true
  takes_line_holds room text has fits = both_true (has_newline text) (leb r.most room) has (le-leb r.most room fits)

  pub line_taken : (room : ℕ) (text : List ℕ) → takes_line r room text ≡ true → (has_newline text ≡ true) × (r.most ≤ room)
  line_taken room text e =
      let both = both_of (has_newline text) (leb r.most room) e in (both.0, leb-true r.most room both.1)

  pub unended_stops : (room : ℕ) (text : List ℕ) → has_newline text ≡ false → takes_line r room text ≡ false
  unended_stops room text none = first_false (has_newline text) (leb r.most room) none

  pub full_stops : (room : ℕ) (text : List ℕ) → room < r.most → takes_line r room text ≡ false
  full_stops room text full = second_false (has_newline text) (leb r.most room) (lt-leb r.most room full)

  -- ---- So many lines

  one_within : (n room : ℕ) (s : S) (text : List ℕ) → takes_line r room text ≡ true
      → taken_within r (suc n) room s text
      ≡ and_then (line_off r s text) (taken_within r n (room - length (r.says s (first_line text))) (r.turns s (first_line text)) (rest_of text))
  unfolding taken_within
  one_within n room s text e = rw e refl

  none_within : (n room : ℕ) (s : S) (text : List ℕ) → takes_line r room text ≡ false → taken_within r n room s text ≡ nothing_taken s text
  unfolding taken_within
  none_within zero room s text e = refl
  none_within (suc n) room s text e = rw e refl

  no_lines : (room : ℕ) (s : S) (text : List ℕ) → taken_within r 0 room s text ≡ nothing_taken s text
  unfolding taken_within
  no_lines room s text = refl

  -- What is true where nothing is taken, and of a line with what is taken behind it, is true of all that is taken.
  pub by_lines : (P : ℕ → S → List ℕ → Taken S → Type 0)
      → ((room : ℕ) (s : S) (text : List ℕ) → P room s text (nothing_taken s text))
      → ((room : ℕ) (s : S) (text : List ℕ) (later : Taken S) → has_newline text ≡ true → r.most ≤ room
      → P (room - length (r.says s (first_line text))) (r.turns s (first_line text)) (rest_of text) later
      → P room s text (and_then (line_off r s text) later))
      → (n room : ℕ) (s : S) (text : List ℕ) → P room s text (taken_within r n room s text)
  by_lines P none one zero room s text = rw (no_lines room s text) (none room s text)
  by_lines P none one (suc n) room s text =
      ⊎_elim
      (λ (takes : takes_line r room text ≡ true).
      let so = line_taken room text takes in
      rw (one_within n room s text takes) (one room s text _ so.0 so.1 (by_lines P none one n _ _ _)))
      (λ (stops : takes_line r room text ≡ false). rw (none_within (suc n) room s text stops) (none room s text))
      (true_or_false (takes_line r room text))

  -- ---- All that have room

  -- once it is the text's length, the number of lines doesn't matter
  enough : (n k room : ℕ) (s : S) (text : List ℕ) → length text ≤ n → length text ≤ k
      → taken_within r n room s text ≡ taken_within r k room s text
  enough zero k room s text hn hk =
      let stops = unended_stops room text (short_unended text hn) in
      none_within 0 room s text stops ∙ sym (none_within k room s text stops)
  enough (suc n) zero room s text hn hk =
      let stops = unended_stops room text (short_unended text hk) in
      none_within (suc n) room s text stops ∙ sym (none_within 0 room s text stops)
  enough (suc n) (suc k) room s text hn hk =
      ⊎_elim
      (λ (takes : takes_line r room text ≡ true).
      let whole = rest_length text (line_taken room text takes).0 in
      one_within n room s text takes
      ∙ ap (and_then (line_off r s text)) (enough n k _ _ (rest_of text) (omega (arith, whole, hn)) (omega (arith, whole, hk)))
      ∙ sym (one_within k room s text takes))
      (λ (stops : takes_line r room text ≡ false). none_within (suc n) room s text stops ∙ sym (none_within (suc k) room s text stops))
      (true_or_false (takes_line r room text))

  next_within : (n room : ℕ) (s : S) (text : List ℕ) → length text ≤ n → takes_line r room text ≡ true
      → taken_within r n room s text
      ≡ and_then (line_off r s text) (taken_off r (room - length (r.says s (first_line text))) (r.turns s (first_line text)) (rest_of text))
  next_within zero room s text h takes = absurd (omega (arith, h, rest_length text (line_taken room text takes).0))
  next_within (suc n) room s text h takes =
      let whole = rest_length text (line_taken room text takes).0 in
      one_within n room s text takes
      ∙ ap (and_then (line_off r s text)) (enough n (length (rest_of text)) _ _ (rest_of text) (omega (arith, whole, h)) (omega arith))

  -- a line, and then all that are taken off what follows it
  pub taken_next : (room : ℕ) (s : S) (text : List ℕ) → has_newline text ≡ true → r.most ≤ room
      → taken_off r room s text
      ≡ and_then (line_off r s text) (taken_off r (room - length (r.says s (first_line text))) (r.turns s (first_line text)) (rest_of text))
  taken_next room s text has fits = next_within (length text) room s text (omega arith) (takes_line_holds room text has fits)

  pub taken_none : (room : ℕ) (s : S) (text : List ℕ) → takes_line r room text ≡ false → taken_off r room s text ≡ nothing_taken s text
  taken_none room s text stops = none_within (length text) room s text stops

  -- ---- What is left, and what was said

  -- what is left stands behind the bytes that were used
  pub taken_rest : (room : ℕ) (s : S) (text : List ℕ) → (taken_off r room s text).rest ≡ drop (taken_off r room s text).used text
  taken_rest room s text =
      by_lines (λ room s text t. t.rest ≡ drop t.used text)
      (λ room s text. refl)
      (λ room s text later has fits so.
      so ∙ ap (drop later.used) (rest_behind text has) ∙ drop-drop later.used (suc (length (first_line text))) text)
      (length text) room s text

  pub taken_used : (room : ℕ) (s : S) (text : List ℕ) → (taken_off r room s text).used ≤ length text
  taken_used room s text =
      by_lines (λ room s text t. t.used ≤ length text)
      (λ room s text. omega arith)
      (λ room s text later has fits so. omega (arith, so, rest_length text has))
      (length text) room s text

  module _ (short : (s : S) (line : List ℕ) → length (r.says s line) ≤ r.most) where
    pub said_within : (n room : ℕ) (s : S) (text : List ℕ) → length (taken_within r n room s text).said ≤ room
    said_within =
        by_lines (λ room s text t. length t.said ≤ room)
        (λ room s text. omega arith)
        (λ room s text later has fits so.
        let line = r.says s (first_line text) in
        omega (arith, so, fits, short s (first_line text), length-append line later.said))

    -- where another line would have room, no line that has ended is left
    ended_within : (n room : ℕ) (s : S) (text : List ℕ) → length text ≤ n
        → r.most ≤ room - length (taken_within r n room s text).said → has_newline (taken_within r n room s text).rest ≡ false
    ended_within zero room s text h = rw (no_lines room s text) (λ fits. short_unended text h)
    ended_within (suc n) room s text h =
        ⊎_elim
        (λ (takes : takes_line r room text ≡ true).
        let so = line_taken room text takes in
        let line = r.says s (first_line text) in
        let later = taken_within r n (room - length line) (r.turns s (first_line text)) (rest_of text) in
        rw (one_within n room s text takes) (
        λ fits.
        ended_within n (room - length line) (r.turns s (first_line text)) (rest_of text) (omega (arith, h, rest_length text so.0))
        (omega (arith, fits, length-append line later.said))))
        (λ (stops : takes_line r room text ≡ false).
        rw (none_within (suc n) room s text stops) (
        λ fits.
        ⊎_elim (λ has. absurd (false≢true (sym stops ∙ takes_line_holds room text has (omega (arith, fits))))) (λ none. none) (true_or_false
        (has_newline text))))
        (true_or_false (takes_line r room text))

    pub all_ended : (room : ℕ) (s : S) (text : List ℕ) → r.most ≤ room - length (taken_off r room s text).said
        → has_newline (taken_off r room s text).rest ≡ false
    all_ended room s text fits = ended_within (length text) room s text (omega arith) fits

-- ---- An answer line where there is room

pub printed_fits : (a : Answer) (place : List ℕ) → answer_length ≤ length place → printed a place ≡ sets place 0 (answer_line a)
printed_fits a place h = rw (le-leb answer_length (length place) h) refl

pub bytes_fit : (place : List ℕ) → answer_length ≤ length place → bytes_put place ≡ answer_length
bytes_fit place h = rw (le-leb answer_length (length place) h) refl

pub answer_long : (a : Answer) → length (answer_line a) ≡ answer_length
unfolding digits_of
answer_long a = refl
