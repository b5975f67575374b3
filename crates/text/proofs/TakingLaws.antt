-- Lines taken one after another into one place, whatever they mean: what was done, and what the lines that are left will do, is the whole.
use mathlib.Core.Path.{◌≡◌, refl, sym, ap, ap₂, ◌∙◌}
use mathlib.Core.Logic.{⊎_elim}
use mathlib.Core.Bool.{true, false}
use mathlib.Core.List.{List, [], ◌++◌, append_assoc, append-nil}
use Prim.Native.Nat.{ℕ, suc, ◌+◌, ◌-◌, ◌<◌, ◌≤◌}
use native.Mathlib.Omega.{arith}
use lib.ListN.{length, take, drop, length-drop, length-append}
use lib.Seq.{sets, sets-eq, length-sets, drop-drop, take_all, drop-length}
use borrow.Rule.Slice.PartMut.{mid_of, post_of, put_mid, Post-is}
use Rattle.words.proofs.TestLaws.{true_or_false}
use Rattle.words.proofs.PartLaws.{sets_append}
use Rattle.text.specs.Newlines.{has_newline, first_line, rest_of}
use Rattle.text.specs.Reading.{Reader, Taken, nothing_taken, line_off, first_taken, and_then, taken_off}
use Rattle.text.proofs.ReadingLaws.{taken_next, taken_none, unended_stops, full_stops, rest_behind, rest_length}

-- ---- Writing behind what was written

-- the part of a place from somewhere on
pub part_behind : (out : List ℕ) (written : ℕ) → mid_of written (length out - written) out ≡ drop written out
part_behind out written = take_all (length out - written) (drop written out) (omega (arith, length-drop written out))

-- that part, lent to be written to, comes home
pub home : (out bytes : List ℕ) (written : ℕ) → written + length bytes ≤ length out
    → put_mid written (length out - written) out (sets (mid_of written (length out - written) out) 0 bytes) ≡ sets out written bytes
home out bytes written h =
    let behind : List ℕ = drop written out in
    let none : post_of written (length out - written) out ≡ [] =
    Post-is written (length out) out (omega (arith, h)) ∙ drop-length out in
    let fits : 0 + length bytes ≤ length behind = omega (arith, h, length-drop written out) in
    ap₂ (λ (part post : List ℕ). take written out ++ (sets part 0 bytes ++ post)) (part_behind out written) none
    ∙ ap (λ (l : List ℕ). take written out ++ l)
    (append-nil (sets behind 0 bytes)
    ∙ sets-eq bytes behind 0 fits
    ∙ ap (λ (l : List ℕ). bytes ++ l) (drop-drop (0 + length bytes) written out))
    ∙ sym (append_assoc (take written out) bytes (drop (written + (0 + length bytes)) out))
    ∙ ap (λ (k : ℕ). take written out ++ bytes ++ drop k out) (sums written (length bytes))
    ∙ sym (sets-eq bytes out written h)
  where
    sums : (a b : ℕ) → a + (0 + b) ≡ a + b
    sums a b = omega arith

-- ---- The rest of the run

module _ {S : Type 0} (r : Reader S) where
  -- what is still to be taken, with the room behind what was written
  abbrev pub still : List ℕ → ℕ → S → List ℕ → Taken S
  still out written s rest = taken_off r (length out - written) s rest

  pub record Going (out₀ : List ℕ) (whole : Taken S) (out : List ℕ) (s : S) (rest : List ℕ) (used written : ℕ) : Type 0 where
    pub long : length out ≡ length out₀
    pub room : written ≤ length out
    pub state : (still out written s rest).state ≡ whole.state
    pub bytes : used + (still out written s rest).used ≡ whole.used
    pub count : written + length (still out written s rest).said ≡ length whole.said
    pub put : sets out written (still out written s rest).said ≡ sets out₀ 0 whole.said

  -- nothing more is taken
  pub record Gone (out₀ : List ℕ) (whole : Taken S) (out : List ℕ) (s : S) (used written : ℕ) : Type 0 where
    pub state : s ≡ whole.state
    pub bytes : used ≡ whole.used
    pub count : written ≡ length whole.said
    pub put : out ≡ sets out₀ 0 whole.said

  pub going_start : (out text : List ℕ) (s : S) → Going out (taken_off r (length out) s text) out s text 0 0
  going_start out text s =
      let all : length out - 0 ≡ length out = omega arith in
      let same : still out 0 s text ≡ taken_off r (length out) s text = ap (λ (n : ℕ). taken_off r n s text) all in
      record {
        long = refl;
        room = omega arith;
        state = ap (λ (t : Taken S). t.state) same;
        bytes = omega (arith, ap (λ (t : Taken S). t.used) same);
        count = omega (arith, ap (λ (t : Taken S). length t.said) same);
        put = ap (λ (t : Taken S). sets out 0 t.said) same;
      }

  module _ (out₀ : List ℕ) (whole : Taken S) (out : List ℕ) (s : S) (rest : List ℕ) (used written : ℕ)
      (g : Going out₀ whole out s rest used written) where
    gone : still out written s rest ≡ nothing_taken s rest → Gone out₀ whole out s used written
    gone none = record {
      state = sym (ap (λ (t : Taken S). t.state) none) ∙ g.state;
      bytes = omega (arith, g.bytes, ap (λ (t : Taken S). t.used) none);
      count = omega (arith, g.count, ap (λ (t : Taken S). length t.said) none);
      put = sym (ap (λ (t : Taken S). sets out written t.said) none) ∙ g.put;
    }

    pub gone_unended : has_newline rest ≡ false → Gone out₀ whole out s used written
    gone_unended none = gone (taken_none r (length out - written) s rest (unended_stops r (length out - written) rest none))

    pub gone_full : length out - written < r.most → Gone out₀ whole out s used written
    gone_full full = gone (taken_none r (length out - written) s rest (full_stops r (length out - written) rest full))

    module _ (fits : r.most ≤ length out - written) (short : length (r.says s (first_line rest)) ≤ r.most) (has : has_newline rest ≡ true) where
      -- one line more
      pub going_line : Going out₀ whole (sets out written (r.says s (first_line rest))) (r.turns s (first_line rest)) (rest_of rest)
          (used + suc (length (first_line rest))) (written + length (r.says s (first_line rest)))
      going_line =
          let line = r.says s (first_line rest) in
          let out' = sets out written line in
          let size : length out' ≡ length out = length-sets out written line in
          let less : length out - written - length line ≡ length out' - (written + length line) = omega (arith, size) in
          let later = still out' (written + length line) (r.turns s (first_line rest)) (rest_of rest) in
          let now : still out written s rest ≡ and_then (line_off r s rest) later =
          taken_next r (length out - written) s rest has fits
          ∙ ap (λ (n : ℕ). and_then (line_off r s rest) (taken_off r n (r.turns s (first_line rest)) (rest_of rest))) less in
          record {
            long = size ∙ g.long;
            room = omega (arith, fits, short, size, g.room);
            state = sym (ap (λ (t : Taken S). t.state) now) ∙ g.state;
            bytes = omega (arith, g.bytes, ap (λ (t : Taken S). t.used) now);
            count = omega (arith, g.count, ap (λ (t : Taken S). length t.said) now, length-append line later.said);
            put = sym (sets_append line later.said out written) ∙ sym (ap (λ (t : Taken S). sets out written t.said) now) ∙ g.put;
          }

      -- the same, written to the part behind what was written
      pub going_on : Going out₀ whole
          (put_mid written (length out - written) out (sets (mid_of written (length out - written) out) 0 (r.says s (first_line rest))))
          (r.turns s (first_line rest)) (drop (suc (length (first_line rest))) rest)
          (used + suc (length (first_line rest))) (written + length (r.says s (first_line rest)))
      going_on =
          rw (home out (r.says s (first_line rest)) written (omega (arith, fits, short, g.room)), sym (rest_behind rest has)) going_line

  -- ---- The one line that was taken

  -- where it has some bytes it had ended, and where it has none no line had
  pub some_line : (s : S) (rest : List ℕ) → ((first_taken r s rest).used ≡ 0 → ⊥) → has_newline rest ≡ true
  some_line s rest some = ⊎_elim (λ has. has) (λ none. absurd (some (rw none refl))) (true_or_false (has_newline rest))

  pub no_line : (s : S) (rest : List ℕ) → (first_taken r s rest).used ≡ 0 → has_newline rest ≡ false
  no_line s rest = ⊎_elim (λ has. rw has (λ none. absurd (omega (arith, none)))) (λ none e. none) (true_or_false (has_newline rest))

  pub line_used : (s : S) (rest : List ℕ) → (first_taken r s rest).used ≤ length rest
  line_used s rest =
      ⊎_elim (λ has. rw has (omega (arith, rest_length rest has))) (λ none. rw none (omega arith)) (true_or_false (has_newline rest))
