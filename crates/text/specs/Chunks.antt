-- A text handed over in chunks, a call each: for the promise that chunks make no difference, whatever the lines mean.
use Rattle.std.specs.Prelude.{ℕ, List, [], ◌∷◌, ◌++◌}
use Rattle.text.specs.Reading.{Reader, taken_off, held_of}

-- a run so far: its state, what was said, and what is held
pub record Run (S : Type 0) : Type 0 where
  pub state : S
  pub said : List ℕ
  pub held : List ℕ

abbrev pub begun_in : {S : Type 0} → S → Run S
begun_in s = record { state = s; said = []; held = [] }

-- a call with room for so many bytes, given what is held and a chunk behind it
abbrev pub fed_with : {S : Type 0} → Reader S → Run S → ℕ → List ℕ → Run S
fed_with reader r size chunk =
    record {
      state = (taken_off reader size r.state (r.held ++ chunk)).state;
      said = r.said ++ (taken_off reader size r.state (r.held ++ chunk)).said;
      held = held_of (taken_off reader size r.state (r.held ++ chunk)).rest;
    }

-- calls one after another, each with its own room and its own chunk, also an empty one
unfoldable pub fed_all : {S : Type 0} → Reader S → Run S → List (ℕ × List ℕ) → Run S
fed_all reader r [] = r
fed_all reader r (call ∷ calls) = fed_all reader (fed_with reader r call.0 call.1) calls

unfoldable pub whole_text : List (ℕ × List ℕ) → List ℕ
whole_text [] = []
whole_text (call ∷ calls) = call.1 ++ whole_text calls
