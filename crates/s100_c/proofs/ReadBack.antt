-- What is put is read back, and what is read is put back.
use mathlib.Core.Path.{◌≡◌, refl, sym, ap, subst, ◌∙◌}
use mathlib.Core.List.{List, [], ◌∷◌}
use Prim.Native.Nat.{ℕ, ◌+◌, ◌*◌, ◌/◌, ◌%◌, ◌<◌, ◌≤◌}
use native.Mathlib.Omega.{arith}
use lib.ListN.{length, get_or, take, drop, length-drop}
use lib.Seq.{length-take-le, get_or-take, get_or-drop}
use Rattle.words.specs.Parts.{widths_of, parts_of, laid, cut}
use Rattle.words.proofs.PartLaws.{laid_long, cut_laid, laid_cut}
use Rattle.bus.specs.declared.state.Bus.{Bus}
use Rattle.bus.proofs.SenseLaws.{sense_means}
use Rattle.s100_c.specs.Layout.{
  two_bytes,
  byte_of_part,
  word_of_part,
  state_layout,
  state_size,
  state_bytes,
  bus_from,
  bus_in,
  answer_layout,
  answer_bytes,
  answer_from,
  answer_in,
}
use Rattle.s100_c.specs.Promises.{Whole, AreBytes, StateReadsBack, SensibleReadsBack, BytesReadBack, AnswerBytesReadBack}
use Rattle.s100_c.proofs.LayoutLaws.{state_at, state_sized, answer_sized}

-- ---- Put, then read

word_back : (n : ℕ) → word_of_part (two_bytes n) ≡ n
word_back n = omega arith

-- the fields from their parts
fields_back : (bus : Bus) → bus_from (parts_of state_layout bus) ≡ bus
fields_back bus = rw (word_back bus.fitted, word_back bus.contenders) refl

pub state_reads_back : StateReadsBack
unfolding state_bytes bus_in
state_reads_back bus whole =
    let sized = state_sized bus whole.0 whole.1 in
    (laid_long bus state_layout sized, ap bus_from (cut_laid bus state_layout sized) ∙ fields_back bus)

pub sensible_reads_back : SensibleReadsBack
sensible_reads_back bus sense = let s = (sense_means bus).0 sense in state_reads_back bus (s.chassis.sixteen_pages, s.driving.sixteen_levels)

pub answer_bytes_read_back : AnswerBytesReadBack
unfolding answer_bytes answer_in
answer_bytes_read_back a = (
  laid_long a answer_layout (answer_sized a),
  ap answer_from (cut_laid a answer_layout (answer_sized a)) ∙ rw (word_back a.datum) refl,
)

-- ---- Read, then put

byte_again : (bytes : List ℕ) → length bytes ≡ 1 → byte_of_part bytes ∷ [] ≡ bytes
byte_again [] size = absurd (omega (arith, size))
byte_again (b ∷ []) size = refl
byte_again (b ∷ c ∷ more) size = absurd (omega (arith, size))

word_again : (bytes : List ℕ) → length bytes ≡ 2 → get_or bytes 1 0 < 0x100 → two_bytes (word_of_part bytes) ≡ bytes
word_again [] size low = absurd (omega (arith, size))
word_again (b ∷ []) size low = absurd (omega (arith, size))
word_again (b ∷ c ∷ []) size low =
    let high : (b * 0x100 + c) / 0x100 ≡ b = omega (arith, low) in
    let rest : (b * 0x100 + c) % 0x100 ≡ c = omega (arith, low) in
    rw (high, rest) refl
word_again (b ∷ c ∷ d ∷ more) size low = absurd (omega (arith, size))

-- so many bytes from a place on
long_from : (at count : ℕ) (bytes : List ℕ) → at + count ≤ length bytes → length (take count (drop at bytes)) ≡ count
long_from at count bytes room = length-take-le count (drop at bytes) (omega (arith, room, length-drop at bytes))

-- the second of two bytes from a place on is a byte
low_from : (at : ℕ) (bytes : List ℕ) → AreBytes bytes → at + 2 ≤ length bytes → get_or (take 2 (drop at bytes)) 1 0 < 0x100
low_from at bytes small room =
    subst (λ (b : ℕ). b < 0x100) (sym (get_or-take 2 (drop at bytes) 1 0 (omega arith) ∙ get_or-drop at bytes 1 0)) (small (at + 1) (omega (arith, room)))

word_from : (at : ℕ) (bytes : List ℕ) → AreBytes bytes → at + 2 ≤ length bytes → two_bytes (word_of_part (take 2 (drop at bytes))) ≡ take 2 (drop at bytes)
word_from at bytes small room = word_again (take 2 (drop at bytes)) (long_from at 2 bytes room) (low_from at bytes small room)

byte_from : (at : ℕ) (bytes : List ℕ) → at + 1 ≤ length bytes → byte_of_part (take 1 (drop at bytes)) ∷ [] ≡ take 1 (drop at bytes)
byte_from at bytes room = byte_again (take 1 (drop at bytes)) (long_from at 1 bytes room)

pub bytes_whole : (bytes : List ℕ) → length bytes ≡ state_size → Whole (bus_in bytes)
unfolding bus_in
bytes_whole bytes size = (long_from (state_at 1) 16 bytes (omega (arith, size)), long_from (state_at 4) 16 bytes (omega (arith, size)))

-- each part, read and put, is what it was
parts_again : (bytes : List ℕ) → length bytes ≡ state_size → AreBytes bytes
    → parts_of state_layout (bus_from (cut (widths_of state_layout) bytes)) ≡ cut (widths_of state_layout) bytes
parts_again bytes size small =
    rw (
      word_from (state_at 0) bytes small (omega (arith, size)),
      byte_from (state_at 2) bytes (omega (arith, size)),
      word_from (state_at 3) bytes small (omega (arith, size)),
      byte_from (state_at 5) bytes (omega (arith, size)),
    ) refl

pub bytes_read_back : BytesReadBack
unfolding state_bytes bus_in
bytes_read_back bytes size small =
    (bytes_whole bytes size, ap laid (parts_again bytes size small) ∙ laid_cut (widths_of state_layout) bytes size)
