-- Where the fields of a state stand in a caller's buffer, in the order in which 01 lists them ("State and phases"), and those of an answer, in
-- the order of the answer line ("The program and one whole run"). Of two bytes the high one is first, as on paper.
use Rattle.std.specs.Prelude.{ℕ, ◌*◌, ◌+◌, ◌/◌, ◌%◌, Bool, List, [], ◌∷◌, eqb, length, get_or, take, drop}
use Rattle.words.specs.Parts.{Part, widths_of, total, laid_out, cut}
use Rattle.bus.specs.State.{state_of}
use Rattle.bus.specs.declared.state.Bus.{Bus}
use Rattle.events.specs.declared.answers.Answer.{Answer}

-- ---- Numbers of one byte and of two, and sixteen entries: laid, and read again

abbrev pub in_one : {A : Type 0} → (A → ℕ) → Part A
in_one number = record { width = 1; bytes = λ a. number a ∷ [] }

abbrev pub two_bytes : ℕ → List ℕ
two_bytes n = n / 0x100 ∷ n % 0x100 ∷ []

abbrev pub in_two : {A : Type 0} → (A → ℕ) → Part A
in_two number = record { width = 2; bytes = λ a. two_bytes (number a) }

abbrev pub in_sixteen : {A : Type 0} → (A → List ℕ) → Part A
in_sixteen entries = record { width = 16; bytes = entries }

abbrev pub byte_of_part : List ℕ → ℕ
byte_of_part bytes = get_or bytes 0 0

abbrev pub word_of_part : List ℕ → ℕ
word_of_part bytes = get_or bytes 0 0 * 0x100 + get_or bytes 1 0

-- from a place on
abbrev pub byte_at : ℕ → List ℕ → ℕ
byte_at at bytes = byte_of_part (take 1 (drop at bytes))

abbrev pub word_at : ℕ → List ℕ → ℕ
word_at at bytes = word_of_part (take 2 (drop at bytes))

abbrev pub sixteen_at : ℕ → List ℕ → List ℕ
sixteen_at at bytes = take 16 (drop at bytes)

-- ---- The state

abbrev pub state_layout : List (Part Bus)
state_layout =
    in_two (λ bus. bus.fitted)
    ∷ in_sixteen (λ bus. bus.pages)
    ∷ in_one (λ bus. bus.phase)
    ∷ in_two (λ bus. bus.contenders)
    ∷ in_sixteen (λ bus. bus.driven)
    ∷ in_one (λ bus. bus.granted)
    ∷ []

abbrev pub state_size : ℕ
state_size = total (widths_of state_layout)

abbrev pub is_state : List ℕ → Bool
is_state bytes = eqb (length bytes) state_size

unfoldable pub state_bytes : Bus → List ℕ
state_bytes bus = laid_out state_layout bus

-- the state of which these are the parts
abbrev pub bus_from : List (List ℕ) → Bus
bus_from parts =
    state_of (word_of_part (get_or parts 0 []))
    (get_or parts 1 [])
    (byte_of_part (get_or parts 2 []))
    (word_of_part (get_or parts 3 []))
    (get_or parts 4 [])
    (byte_of_part (get_or parts 5 []))

unfoldable pub bus_in : List ℕ → Bus
bus_in bytes = bus_from (cut (widths_of state_layout) bytes)

-- ---- The answer

abbrev pub answer_layout : List (Part Answer)
answer_layout =
    in_one (λ a. a.refusal)
    ∷ in_one (λ a. a.phase)
    ∷ in_one (λ a. a.granted)
    ∷ in_one (λ a. a.lines)
    ∷ in_one (λ a. a.signals)
    ∷ in_one (λ a. a.status)
    ∷ in_one (λ a. a.cycles)
    ∷ in_two (λ a. a.datum)
    ∷ []

abbrev pub answer_size : ℕ
answer_size = total (widths_of answer_layout)

abbrev pub is_answer : List ℕ → Bool
is_answer bytes = eqb (length bytes) answer_size

unfoldable pub answer_bytes : Answer → List ℕ
answer_bytes a = laid_out answer_layout a

-- the answer of which these are the parts
abbrev pub answer_from : List (List ℕ) → Answer
answer_from parts = record {
  refusal = byte_of_part (get_or parts 0 []);
  phase = byte_of_part (get_or parts 1 []);
  granted = byte_of_part (get_or parts 2 []);
  lines = byte_of_part (get_or parts 3 []);
  signals = byte_of_part (get_or parts 4 []);
  status = byte_of_part (get_or parts 5 []);
  cycles = byte_of_part (get_or parts 6 []);
  datum = word_of_part (get_or parts 7 []);
}

unfoldable pub answer_in : List ℕ → Answer
answer_in bytes = answer_from (cut (widths_of answer_layout) bytes)
