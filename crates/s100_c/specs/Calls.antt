-- What each call answers, and what it leaves in the buffers that it was lent. Where a length is wrong, nothing is written. With the
-- right lengths it is 01's setup, event or settle.
use Rattle.std.specs.Prelude.{ℕ, Bool, cond, not, ◌&&◌, List, eqb, ltb, length, get_or}
use Rattle.bus.specs.Refusal.{wrong_length}
use Rattle.bus.specs.Sense.{makes_sense}
use Rattle.bus.specs.Setup.{setup_of}
use Rattle.bus.specs.Settle.{settle_of}
use Rattle.bus.specs.declared.state.Bus.{Bus}
use Rattle.bus.specs.declared.state.Chassis.{Chassis}
use Rattle.judgement.specs.Refusals.{has_wrong_buffers}
use Rattle.judgement.specs.declared.event.Event.{Event}
use Rattle.events.specs.Machine.{Machine, machine}
use Rattle.events.specs.Step.{after, answer_to}
use Rattle.s100_c.specs.Layout.{is_state, state_bytes, bus_in, is_answer, answer_bytes}

-- ---- Setup

abbrev pub setup_fits : Chassis → List ℕ → Bool
setup_fits given state = eqb (length given.pages) 16 && is_state state

abbrev pub setup_answers : Chassis → List ℕ → ℕ
setup_answers given state = cond (setup_fits given state) (setup_of given).answer wrong_length

abbrev pub setup_leaves : Chassis → List ℕ → List ℕ
setup_leaves given state = cond (setup_fits given state) (state_bytes (setup_of given).bus) state

-- ---- Step

-- what a step is lent
pub record Lent : Type 0 where
  pub state : List ℕ
  pub memory : List ℕ
  pub ports : List ℕ
  pub answer : List ℕ

abbrev pub lent : List ℕ → List ℕ → List ℕ → List ℕ → Lent
lent state memory ports answer = record { state = state; memory = memory; ports = ports; answer = answer }

abbrev pub machine_in : Lent → Machine
machine_in given = machine (bus_in given.state) given.memory given.ports

abbrev pub places_fit : Lent → Bool
places_fit given = is_state given.state && is_answer given.answer

abbrev pub step_fits : Lent → Bool
step_fits given = places_fit given && not (has_wrong_buffers given.memory given.ports)

-- for memory and ports of wrong lengths the model's own answer has 01
unfoldable pub step_answers : Lent → Event → ℕ
step_answers given event = cond (places_fit given) (answer_to (machine_in given) event).refusal wrong_length

-- what a step writes where every length is right
abbrev pub written : Lent → Event → Lent
written given event =
    lent (state_bytes (after (machine_in given) event).bus) (after (machine_in given) event).memory (after (machine_in given) event).ports
    (answer_bytes (answer_to (machine_in given) event))

unfoldable pub step_leaves : Lent → Event → Lent
step_leaves given event = cond (step_fits given) (written given event) given

-- ---- Settle

abbrev pub settle_answers : List ℕ → List ℕ → ℕ
settle_answers state cards = cond (is_state state) (settle_of (bus_in state) cards).answer wrong_length

abbrev pub settle_leaves : List ℕ → List ℕ → List ℕ
settle_leaves state cards = cond (is_state state) (state_bytes (settle_of (bus_in state) cards).bus) state

-- the number lent for the looks
abbrev pub settle_counts : List ℕ → List ℕ → ℕ → ℕ
settle_counts state cards looks = cond (is_state state) (settle_of (bus_in state) cards).looks looks

-- ---- Fields

-- where there is none
abbrev pub no_field : ℕ
no_field = 0xFFFFFFFF

abbrev pub field_of : (Bus → ℕ) → List ℕ → ℕ
field_of field state = cond (is_state state) (field (bus_in state)) no_field

-- of sixteen pages or cards
abbrev pub entry_of : (Bus → List ℕ) → List ℕ → ℕ → ℕ
entry_of entries state n = cond (is_state state && ltb n 16) (get_or (entries (bus_in state)) n 0) no_field

abbrev pub is_sensible : List ℕ → Bool
is_sensible state = is_state state && makes_sense (bus_in state)
