-- What is held, and how it is brought to the front.
use mathlib.Core.Path.{◌≡◌, refl, sym, ap, ap₂, ◌∙◌}
use mathlib.Core.Bool.{false}
use mathlib.Core.List.{List, ◌++◌}
use Prim.Native.Nat.{ℕ, ◌+◌, ◌-◌, ◌<◌, ◌≤◌}
use native.Mathlib.Decide.{dec_le}
use native.Mathlib.Omega.{arith}
use lib.ListN.{length, take, drop, length-take}
use lib.Seq.{take_all, take-length, take-take, take-add, drop_at, length-take-le, paste}
use Rattle.text.specs.Newlines.{has_newline, first_line}
use Rattle.text.specs.Reading.{most_held, held_of}
use Rattle.text.proofs.NewlineLaws.{unended, line_within}
use Rattle.words.proofs.TestLaws.{true_or_false}
use mathlib.Core.Logic.{◌⊎◌, ⊎_elim}

-- ---- What is held

-- the first line is the whole exactly where there is no newline
pub whole_unended : (rest : List ℕ) → length (first_line rest) ≡ length rest → has_newline rest ≡ false
whole_unended rest e = ⊎_elim (λ has. absurd (omega (arith, e, line_within rest has))) (λ none. none) (true_or_false (has_newline rest))

-- how many bytes are held, as the code finds it
pub held_count_cut : (rest : List ℕ) (end : ℕ) → end ≡ length (first_line rest) → end ≡ length rest → most_held < length rest
    → most_held ≡ length (held_of rest)
held_count_cut rest end e whole long = rw (whole_unended rest (sym e ∙ whole)) (sym (length-take-le most_held rest (omega (arith, long))))

pub held_count_whole : (rest : List ℕ) (end : ℕ) → end ≡ length (first_line rest) → (end ≡ length rest → ⊥) ⊎ (length rest ≤ most_held)
    → length rest ≡ length (held_of rest)
held_count_whole rest end e whole =
    ⊎_elim
    (λ has. rw has refl)
    (λ (none : has_newline rest ≡ false). rw none (ap length (sym (take_all most_held rest (short none)))))
    (true_or_false (has_newline rest))
  where
    short : has_newline rest ≡ false → length rest ≤ most_held
    short none = ⊎_elim (λ ended. absurd (ended (e ∙ ap length (unended rest none)))) (λ h. h) whole

-- ---- What is held is the front of the rest

pub held_within : (rest : List ℕ) → length (held_of rest) ≤ length rest
held_within rest =
    ⊎_elim (λ has. rw has (omega arith)) (λ none. rw none (omega (arith, length-take most_held rest))) (true_or_false (has_newline rest))

pub held_front : (rest : List ℕ) → take (length (held_of rest)) rest ≡ held_of rest
held_front rest =
    ⊎_elim (λ has. rw has (take-length rest)) (λ none. rw none (go (dec_le most_held (length rest)))) (true_or_false (has_newline rest))
  where
    go : Dec (most_held ≤ length rest) → take (length (take most_held rest)) rest ≡ take most_held rest
    go (yes h) = ap (λ (k : ℕ). take k rest) (length-take-le most_held rest h)
    go (no h) =
        let all = take_all most_held rest (omega arith) in ap (λ (l : List ℕ). take (length l) rest) all ∙ take-length rest ∙ sym all

-- the bytes from one place to another
pub between : (text : List ℕ) (from filled : ℕ) → from ≤ filled → filled ≤ length text → drop from (take filled text) ≡ take (filled - from) (drop from text)
between text from filled h k =
    let sum : filled ≡ from + (filled - from) = omega (arith, h) in
    ap (λ (n : ℕ). drop from (take n text)) sum
    ∙ ap (drop from) (take-add from (filled - from) text)
    ∙ drop_at (take from text) (take (filled - from) (drop from text)) from (length-take-le from text (omega (arith, h, k)))

pub held_home : (text : List ℕ) (from filled count : ℕ) → from ≤ filled → filled ≤ length text
    → count ≡ length (held_of (take (filled - from) (drop from text))) → (text' : List ℕ) → text' ≡ paste text 0 (drop from text) count
    → (count ≡ length (held_of (drop from (take filled text))))
    × (text' ≡ held_of (drop from (take filled text)) ++ drop (length (held_of (drop from (take filled text)))) text)
held_home text from filled count h k e text' left =
    let rest = take (filled - from) (drop from text) in
    let front : take (length (held_of rest)) (drop from text) ≡ held_of rest =
    sym (take-take (length (held_of rest)) (filled - from) (drop from text)
    (omega (arith, held_within rest, length-take (filled - from) (drop from text))))
    ∙ held_front rest in
    rw (between text from filled h k) (
      e,
      left
          ∙ ap (λ (n : ℕ). paste text 0 (drop from text) n) e
          ∙ ap₂ (λ (l : List ℕ) (n : ℕ). l ++ drop n text) front (none (length (held_of rest))),
    )
  where
    none : (n : ℕ) → 0 + n ≡ n
    none n = omega arith
