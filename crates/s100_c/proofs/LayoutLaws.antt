-- What stands in a buffer from a place on; the parts put one behind the other are the whole.
use mathlib.Core.Path.{◌≡◌, refl, sym, ap, ap₂, ◌∙◌}
use mathlib.Core.List.{List, [], ◌∷◌, ◌++◌, append_assoc}
use Prim.Native.Nat.{ℕ, ◌+◌, ◌*◌, ◌/◌, ◌%◌, ◌^◌, ◌<◌}
use native.Mathlib.Omega.{arith}
use borrow.Rule.Slice.PartMut.{put_mid}
use lib.ListN.{length, get_or, drop, set, length-append}
use lib.Seq.{sets, get_or-drop, get_or-take}
use Rattle.std.specs.Int.{w16, to_be_bytes}
use Rattle.words.specs.Parts.{widths_of, place_of, Sized}
use Rattle.words.proofs.PartLaws.{sets_append, sets_all, filled_next, laid_long}
use Rattle.bus.specs.declared.state.Bus.{Bus}
use Rattle.events.specs.declared.answers.Answer.{Answer}
use Rattle.s100_c.specs.Layout.{two_bytes, byte_at, word_at, state_layout, state_size, state_bytes, answer_layout, answer_size, answer_bytes}

-- where a field of the state begins
abbrev pub state_at : ℕ → ℕ
state_at n = place_of n (widths_of state_layout)

abbrev pub answer_at : ℕ → ℕ
answer_at n = place_of n (widths_of answer_layout)

-- ---- Read

pub byte_there : (at : ℕ) (bytes : List ℕ) → get_or bytes at 0 ≡ byte_at at bytes
byte_there at bytes = sym (get_or-take 1 (drop at bytes) 0 0 (omega arith) ∙ get_or-drop at bytes 0 0 ∙ here at)
  where
    here : (k : ℕ) → get_or bytes (k + 0) 0 ≡ get_or bytes k 0
    here k = let e : k + 0 ≡ k = omega arith in ap (λ (i : ℕ). get_or bytes i 0) e

pub word_there : (at : ℕ) (bytes : List ℕ) → get_or bytes at 0 * 0x100 + get_or bytes (at + 1) 0 ≡ word_at at bytes
word_there at bytes =
    ap₂ (λ (high low : ℕ). high * 0x100 + low)
    (byte_there at bytes ∙ get_or-take 1 (drop at bytes) 0 0 (omega arith) ∙ sym (get_or-take 2 (drop at bytes) 0 0 (omega arith)))
    (sym (get_or-take 2 (drop at bytes) 1 0 (omega arith) ∙ get_or-drop at bytes 1 0))

-- ---- Put

pub two_put : (n : ℕ) → n < 2 ^ 16 → to_be_bytes w16 n ≡ two_bytes n
two_put n small = let high : n / 256 % 256 ≡ n / 256 = omega (arith, small) in rw high refl

-- behind what fills the front, one byte
byte_next : (place place' front : List ℕ) (at b : ℕ) → place' ≡ sets place 0 front → length front ≡ at → set place' at b ≡ sets place 0 (front ++ b ∷ [])
byte_next place place' front at b so here =
    let next : at ≡ 0 + length front = omega (arith, here) in
    ap (λ (l : List ℕ). set l at b) so ∙ ap (λ (k : ℕ). set (sets place 0 front) k b) next ∙ sym (sets_append front (b ∷ []) place 0)

-- ---- The parts together

pub state_sized : (bus : Bus) → length bus.pages ≡ 16 → length bus.driven ≡ 16 → Sized state_layout bus
state_sized bus pages driven = (refl, (pages, (refl, (refl, (driven, (refl, tt))))))

pub state_long : (bus : Bus) → length bus.pages ≡ 16 → length bus.driven ≡ 16 → length (state_bytes bus) ≡ state_size
unfolding state_bytes
state_long bus pages driven = laid_long bus state_layout (state_sized bus pages driven)

-- each part put behind the one before
pub state_put : (l : List ℕ) (bus : Bus) → length l ≡ state_size → length bus.pages ≡ 16 → length bus.driven ≡ 16
    → set (
    put_mid 21 16 (
    put_mid 19 2 (set (put_mid 2 16 (put_mid 0 2 l (two_bytes bus.fitted)) bus.pages) 18 bus.phase) (two_bytes bus.contenders)) bus.driven)
    37 bus.granted
    ≡ state_bytes bus
unfolding state_bytes
state_put l bus size pages driven =
    let a = two_bytes bus.fitted in
    let b = a ++ bus.pages in
    let c = b ++ bus.phase ∷ [] in
    let d = c ++ two_bytes bus.contenders in
    let e = d ++ bus.driven in
    let b_long : length b ≡ 18 = length-append a bus.pages ∙ ap (λ (n : ℕ). 2 + n) pages in
    let c_long : length c ≡ 19 = length-append b (bus.phase ∷ []) ∙ ap (λ (n : ℕ). n + 1) b_long in
    let d_long : length d ≡ 21 = length-append c (two_bytes bus.contenders) ∙ ap (λ (n : ℕ). n + 2) c_long in
    let e_long : length e ≡ 37 = length-append d bus.driven ∙ ap₂ (λ (n m : ℕ). n + m) d_long driven in
    let at_a = filled_next l l [] a 0 2 refl refl (omega arith) (omega (arith, size)) refl in
    let at_b = filled_next l _ a bus.pages 2 18 at_a refl (omega arith) (omega (arith, size)) pages in
    let at_c = byte_next l _ b 18 bus.phase at_b b_long in
    let at_d = filled_next l _ c (two_bytes bus.contenders) 19 21 at_c c_long (omega arith) (omega (arith, size)) refl in
    let at_e = filled_next l _ d bus.driven 21 37 at_d d_long (omega arith) (omega (arith, size)) driven in
    let all = byte_next l _ e 37 bus.granted at_e e_long in
    all
    ∙ sets_all l (e ++ bus.granted ∷ []) (omega (arith, length-append e (bus.granted ∷ []), e_long, size))
    ∙ simp append_assoc

pub answer_sized : (a : Answer) → Sized answer_layout a
answer_sized a = (refl, (refl, (refl, (refl, (refl, (refl, (refl, (refl, tt))))))))

-- seven bytes and a word put behind them
pub answer_put : (l : List ℕ) (a : Answer) → length l ≡ answer_size
    → put_mid 7 2 (
    sets l 0 (a.refusal ∷ a.phase ∷ a.granted ∷ a.lines ∷ a.signals ∷ a.status ∷ a.cycles ∷ [])
    ) (two_bytes a.datum)
    ≡ answer_bytes a
unfolding answer_bytes
answer_put l a size =
    let front = a.refusal ∷ a.phase ∷ a.granted ∷ a.lines ∷ a.signals ∷ a.status ∷ a.cycles ∷ [] in
    filled_next l (sets l 0 front) front (two_bytes a.datum) 7 9 refl refl (omega arith) (omega (arith, size)) refl
    ∙ sets_all l (front ++ two_bytes a.datum) (sym size)
