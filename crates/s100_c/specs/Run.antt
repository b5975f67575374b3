-- A run through the C face: each call is given the bytes that its predecessor left of the state, and is lent memory, ports and a place for its
-- answer of its own.
use Rattle.std.specs.Prelude.{ℕ, cond, List, [], ◌∷◌}
use Rattle.runs.specs.Run.{Call}
use Rattle.s100_c.specs.Layout.{is_answer}
use Rattle.s100_c.specs.Calls.{lent, step_leaves}

-- a call of the model, with the place for its answer
pub record Placed : Type 0 where
  pub call : Call
  pub answer : List ℕ

abbrev pub state_after : List ℕ → Placed → List ℕ
state_after state c = (step_leaves (lent state c.call.memory c.call.ports c.answer) c.call.event).state

unfoldable pub bytes_after : List ℕ → List Placed → List ℕ
bytes_after state [] = state
bytes_after state (c ∷ calls) = bytes_after (state_after state c) calls

-- the calls that come to the bus: one without a place for its answer doesn't
unfoldable pub calls_taken : List Placed → List Call
calls_taken [] = []
calls_taken (c ∷ calls) = cond (is_answer c.answer) (c.call ∷ calls_taken calls) (calls_taken calls)
