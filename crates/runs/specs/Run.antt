-- A run: calls one after another, each of which is given the bus that its predecessor returned (01, "State and phases"). Memory and ports are
-- lent to each call for itself, so a run may hold calls with buffers of any lengths and contents.
use Rattle.std.specs.Prelude.{ℕ, ◌≡◌, Bool, true, false, cond, ◌||◌, List, [], ◌∷◌, eqb}
use Rattle.lines.specs.Arbitration.{is_round}
use Rattle.phases.specs.Kind as Kind
use Rattle.bus.specs.Refusal as Refusal
use Rattle.bus.specs.State.{arbitration_of}
use Rattle.bus.specs.declared.state.Bus.{Bus}
use Rattle.judgement.specs.declared.event.Event.{Event}
use Rattle.events.specs.Machine.{Machine, machine}
use Rattle.events.specs.Step.{refusal_in, after}

-- an event, with the memory and the ports that are lent to it
pub record Call : Type 0 where
  pub event : Event
  pub memory : List ℕ
  pub ports : List ℕ

abbrev pub call : Event → List ℕ → List ℕ → Call
call event memory ports = record { event = event; memory = memory; ports = ports }

abbrev pub machine_for : Bus → Call → Machine
machine_for bus c = machine bus c.memory c.ports

abbrev pub refusal_on : Bus → Call → ℕ
refusal_on bus c = refusal_in (machine_for bus c) c.event

abbrev pub bus_after : Bus → Call → Bus
bus_after bus c = (after (machine_for bus c) c.event).bus

unfoldable pub after_all : Bus → List Call → Bus
after_all bus [] = bus
after_all bus (c ∷ calls) = after_all (bus_after bus c) calls

-- ---- What is accepted in it

abbrev pub is_accepted : Bus → Call → Bool
is_accepted bus c = eqb (refusal_on bus c) Refusal.accepted

-- the events that are accepted
unfoldable pub accepted_of : Bus → List Call → List Event
accepted_of bus [] = []
accepted_of bus (c ∷ calls) = cond (is_accepted bus c) (c.event ∷ accepted_of (bus_after bus c) calls) (accepted_of (bus_after bus c) calls)

-- some event is of this kind
unfoldable pub has_kind : ℕ → List Event → Bool
has_kind kind [] = false
has_kind kind (event ∷ events) = eqb event.kind kind || has_kind kind events

-- who speaks the events of this kind
unfoldable pub speakers_of : ℕ → List Event → List ℕ
speakers_of kind [] = []
speakers_of kind (event ∷ events) = cond (eqb event.kind kind) (event.speaker ∷ speakers_of kind events) (speakers_of kind events)

-- the accepted looks
abbrev pub looks_in : Bus → List Call → List ℕ
looks_in bus calls = speakers_of Kind.look (accepted_of bus calls)

-- each contender has at least one accepted look in this stretch of a run; other calls may stand anywhere in it
abbrev pub EachLooks : Bus → List Call → Type 0
EachLooks bus calls = is_round (arbitration_of bus) (looks_in bus calls) ≡ true

-- the arbitration isn't ended: of the accepted events none is an acknowledge, and none a reset
pub record GoesOn (bus : Bus) (calls : List Call) : Type 0 where
  pub no_grant : has_kind Kind.acknowledge (accepted_of bus calls) ≡ false
  pub no_reset : has_kind Kind.reset (accepted_of bus calls) ≡ false

-- ---- Events that hand on one memory and its ports, as the program's do

unfoldable pub after_events : Machine → List Event → Machine
after_events m [] = m
after_events m (event ∷ events) = after_events (after m event) events

-- the calls that they are
unfoldable pub calls_of : Machine → List Event → List Call
calls_of m [] = []
calls_of m (event ∷ events) = call event m.memory m.ports ∷ calls_of (after m event) events
