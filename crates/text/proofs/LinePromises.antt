-- The lines of a text, and a text read in pieces.
use mathlib.Core.Path.{◌≡◌, refl, sym, ap, ap₂, ◌∙◌}
use mathlib.Core.Logic.{⊎_elim}
use mathlib.Core.Bool.{true, false}
use mathlib.Core.List.{List, [], ◌∷◌, ◌++◌, append_assoc, append-nil}
use Prim.Native.Nat.{ℕ, zero, suc}
use native.Mathlib.Omega.{arith}
use lib.Dec.{eqb}
use lib.ListN.{length, take, length-take}
use lib.Seq.{append_snoc, take-take}
use Rattle.words.proofs.TestLaws.{true_or_false, neither_of}
use Rattle.text.specs.Newlines.{newline, has_newline, first_line, rest_of, last_line, lines_after, text_lines}
use Rattle.text.specs.Reading.{Reader, Taken, answers_to, most_held}
use Rattle.text.specs.Promises.{LineEnded, LineUnended, SplitsAtNewline, HeldIsShort, TakenIsTheWhole, TakenFits, GoesByFront, HeldIsEnough}
use Rattle.text.proofs.NewlineLaws.{by_newline, splits}
use Rattle.text.proofs.ReadingLaws.{by_lines, said_within, all_ended}

-- ---- Lines

-- a line goes on as long as no newline comes
ended_after : (held line text : List ℕ) → has_newline line ≡ false → lines_after held (line ++ newline ∷ text) ≡ (held ++ line) ∷ text_lines text
unfolding lines_after has_newline
ended_after held [] text none = ap (λ (l : List ℕ). l ∷ lines_after [] text) (sym (append-nil held))
ended_after held (b ∷ line) text none =
    let both = neither_of (eqb b newline) (has_newline line) none in
    rw both.0 (ended_after (held ++ b ∷ []) line text both.1 ∙ ap (λ (l : List ℕ). l ∷ lines_after [] text) (append_snoc held b line))

unended_after : (held line : List ℕ) → has_newline line ≡ false → lines_after held line ≡ last_line (held ++ line)
unfolding lines_after has_newline
unended_after held [] none = ap last_line (sym (append-nil held))
unended_after held (b ∷ line) none =
    let both = neither_of (eqb b newline) (has_newline line) none in
    rw both.0 (unended_after (held ++ b ∷ []) line both.1 ∙ ap last_line (append_snoc held b line))

pub line_ended : LineEnded
line_ended line text none = ended_after [] line text none

pub line_unended : LineUnended
line_unended line none = unended_after [] line none

-- a line begun before a text is as one at its front
begun_at : (front line text : List ℕ) → has_newline line ≡ false → lines_after front (line ++ text) ≡ lines_after (front ++ line) text
unfolding lines_after has_newline
begun_at front [] text none = ap (λ (l : List ℕ). lines_after l text) (sym (append-nil front))
begun_at front (b ∷ line) text none =
    let both = neither_of (eqb b newline) (has_newline line) none in
    rw both.0 (begun_at (front ++ b ∷ []) line text both.1 ∙ ap (λ (l : List ℕ). lines_after l text) (append_snoc front b line))

begun : (held text : List ℕ) → has_newline held ≡ false → text_lines (held ++ text) ≡ lines_after held text
begun held text none = begun_at [] held text none

first_has_none : (text : List ℕ) → has_newline (first_line text) ≡ false
unfolding has_newline first_line
first_has_none =
    by_newline (λ text. has_newline (first_line text) ≡ false) refl (λ b text t. rw t refl) (λ b text t so. rw t (rw t so))

-- the first line, and then the lines of the rest
lines_first : (text more : List ℕ) → has_newline text ≡ true → text_lines (text ++ more) ≡ first_line text ∷ text_lines (rest_of text ++ more)
lines_first text more has =
    ap (λ (l : List ℕ). text_lines (l ++ more)) (splits text has)
    ∙ ap text_lines (append_assoc (first_line text) (newline ∷ rest_of text) more)
    ∙ line_ended (first_line text) (rest_of text ++ more) (first_has_none text)

-- ---- In pieces

module _ {S : Type 0} (r : Reader S) where
  one_answered : (s : S) (line : List ℕ) (lines : List (List ℕ))
      → answers_to r s (line ∷ lines) ≡ r.says s line ++ answers_to r (r.turns s line) lines
  unfolding answers_to
  one_answered s line lines = refl

  -- one line more before what is the whole
  line_whole : (s : S) (text more : List ℕ) (later : Taken S) → has_newline text ≡ true
      → answers_to r (r.turns s (first_line text)) (text_lines (rest_of text ++ more))
      ≡ later.said ++ answers_to r later.state (text_lines (later.rest ++ more))
      → answers_to r s (text_lines (text ++ more))
      ≡ (r.says s (first_line text) ++ later.said) ++ answers_to r later.state (text_lines (later.rest ++ more))
  line_whole s text more later has so =
      let line = r.says s (first_line text) in
      ap (answers_to r s) (lines_first text more has)
      ∙ one_answered s (first_line text) (text_lines (rest_of text ++ more))
      ∙ ap (λ (l : List ℕ). line ++ l) so
      ∙ sym (append_assoc line later.said (answers_to r later.state (text_lines (later.rest ++ more))))

pub taken_is_the_whole : TakenIsTheWhole
taken_is_the_whole S r n room s text more =
    by_lines r
    (λ room s text t.
    answers_to r s (text_lines (text ++ more)) ≡ t.said ++ answers_to r t.state (text_lines (t.rest ++ more)))
    (λ room s text. refl)
    (λ room s text later has fits so. line_whole r s text more later has so)
    n room s text

pub taken_fits : TakenFits
taken_fits S r short room s text = (said_within r short (length text) room s text, all_ended r short room s text)

-- ---- What is held

pub front_has_none : (n : ℕ) (line : List ℕ) → has_newline line ≡ false → has_newline (take n line) ≡ false
unfolding has_newline
front_has_none zero line none = refl
front_has_none (suc n) [] none = refl
front_has_none (suc n) (b ∷ line) none =
    let both = neither_of (eqb b newline) (has_newline line) none in rw both.0 (front_has_none n line both.1)

-- the front of a longer text goes by the front of its beginning
front_of : (n : ℕ) (begin end : List ℕ) → take n (begin ++ end) ≡ take n (take n begin ++ end)
front_of zero begin end = refl
front_of (suc n) [] end = refl
front_of (suc n) (b ∷ begin) end = ap (λ (l : List ℕ). b ∷ l) (front_of n begin end)

same_fronts : (n : ℕ) (h g end : List ℕ) → take n h ≡ take n g → take n (h ++ end) ≡ take n (g ++ end)
same_fronts n h g end e = front_of n h end ∙ ap (λ (l : List ℕ). take n (l ++ end)) e ∙ sym (front_of n g end)

module _ {S : Type 0} (r : Reader S) (cut : GoesByFront r) where
  same_said : (s : S) (h g : List ℕ) → take most_held h ≡ take most_held g → r.says s h ≡ r.says s g
  same_said s h g e = sym (cut s h).0 ∙ ap (r.says s) e ∙ (cut s g).0

  same_turn : (s : S) (h g : List ℕ) → take most_held h ≡ take most_held g → r.turns s h ≡ r.turns s g
  same_turn s h g e = sym (cut s h).1 ∙ ap (r.turns s) e ∙ (cut s g).1

  last_same : (s : S) (h g : List ℕ) → take most_held h ≡ take most_held g → answers_to r s (last_line h) ≡ answers_to r s (last_line g)
  unfolding answers_to last_line
  last_same s [] [] e = refl
  last_same s [] (b ∷ g) e = absurd (omega (arith, ap length e))
  last_same s (b ∷ h) [] e = absurd (omega (arith, ap length e))
  last_same s (b ∷ h) (a ∷ g) e =
      ap₂ (λ (l : List ℕ) (t : S). l ++ r.closes t) (same_said s (b ∷ h) (a ∷ g) e) (same_turn s (b ∷ h) (a ∷ g) e)

  cut_same : (s : S) (h g text : List ℕ) → take most_held h ≡ take most_held g → answers_to r s (lines_after h text) ≡ answers_to r s (lines_after g text)
  unfolding lines_after
  cut_same s h g [] e = last_same s h g e
  cut_same s h g (b ∷ text) e =
      ⊎_elim
      (λ (ends : eqb b newline ≡ true).
      rw ends (
      one_answered r s h (lines_after [] text)
      ∙ ap₂ (λ (l : List ℕ) (t : S). l ++ answers_to r t (lines_after [] text)) (same_said s h g e) (same_turn s h g e)
      ∙ sym (one_answered r s g (lines_after [] text))))
      (λ (goes_on : eqb b newline ≡ false).
      rw goes_on (cut_same s (h ++ b ∷ []) (g ++ b ∷ []) text (same_fronts most_held h g (b ∷ []) e)))
      (true_or_false (eqb b newline))

pub held_is_enough : HeldIsEnough
held_is_enough S r cut s rest more =
    ⊎_elim
    (λ (has : has_newline rest ≡ true). rw has refl)
    (λ (none : has_newline rest ≡ false).
    rw none (
    ap (answers_to r s) (begun (take most_held rest) more (front_has_none most_held rest none))
    ∙ cut_same r cut s (take most_held rest) rest more (take-take most_held most_held rest (omega arith))
    ∙ ap (answers_to r s) (sym (begun rest more none))))
    (true_or_false (has_newline rest))

-- ---- A line with its newline

-- it is its own first line, with nothing behind it
pub ended_line : (line : List ℕ) → has_newline line ≡ false
    → (has_newline (line ++ newline ∷ []) ≡ true) × ((first_line (line ++ newline ∷ []) ≡ line) × (rest_of (line ++ newline ∷ []) ≡ []))
unfolding has_newline first_line rest_of
ended_line [] none = (refl, (refl, refl))
ended_line (b ∷ line) none =
    let both = neither_of (eqb b newline) (has_newline line) none in
    let so = ended_line line both.1 in
    rw both.0 (so.0, (ap (λ (l : List ℕ). b ∷ l) so.1.0, so.1.1))

pub no_newline : has_newline [] ≡ false
unfolding has_newline
no_newline = refl

pub last_of : (b : ℕ) (line : List ℕ) → last_line (b ∷ line) ≡ (b ∷ line) ∷ []
unfolding last_line
last_of b line = refl

pub last_none : last_line [] ≡ []
unfolding last_line
last_none = refl

pub splits_at_newline : SplitsAtNewline
splits_at_newline text has = (splits text has, first_has_none text)

pub held_is_short : HeldIsShort
held_is_short rest none = rw none (omega (arith, length-take most_held rest))
