-- What is promised of runs of events (the third demand, and 01, "Marked for proof"). The proof of each
-- stands in proofs/ under its name in lower case, with underscores.
use Rattle.std.specs.Prelude.{ℕ, ◌<◌, ◌≤◌, ◌≡◌, ◌↔◌, true, false, List, [], ◌∷◌, ◌++◌, length, get_or}
use Rattle.lines.specs.Arbitration.{Contender, Highest}
use Rattle.phases.specs.Phase as Phase
use Rattle.phases.specs.Kind as Kind
use Rattle.bus.specs.Refusal as Refusal
use Rattle.bus.specs.State.{arbitration_of, lines_of, is_settled}
use Rattle.bus.specs.Sense.{makes_sense}
use Rattle.bus.specs.Setup.{setup_of}
use Rattle.bus.specs.declared.state.Bus.{Bus}
use Rattle.bus.specs.declared.state.Chassis.{Chassis}
use Rattle.judgement.specs.Table.{event_of}
use Rattle.judgement.specs.Refusals.{has_wrong_buffers}
use Rattle.judgement.specs.declared.event.Event.{Event}
use Rattle.events.specs.Machine.{Machine}
use Rattle.events.specs.Step.{after, answer_to}
use Rattle.events.specs.Promises.{AcceptedAs}
use Rattle.runs.specs.Run.{Call, call, refusal_on, bus_after, after_all, accepted_of, has_kind, EachLooks, GoesOn, after_events, calls_of}

-- ---- Sense

-- A bus that makes sense does so after any run;
abbrev pub SenseInRuns : Type 0
SenseInRuns = (bus : Bus) → makes_sense bus ≡ true → (calls : List Call) → makes_sense (after_all bus calls) ≡ true

-- so from a bus that setup answered no run meets 02.
abbrev pub NeverSenseless : Type 0
NeverSenseless =
    (chassis : Chassis) → length chassis.pages ≡ 16 → (calls : List Call) (c : Call)
    → refusal_on (after_all (setup_of chassis).bus calls) c ≡ Refusal.senseless → ⊥

-- Events that hand on one memory leave the bus that their calls leave.
abbrev pub OneMemory : Type 0
OneMemory = (m : Machine) (events : List Event) → (after_events m events).bus ≡ after_all m.bus (calls_of m events)

-- ---- Ports (01, "Bytes, words, status")

-- none of these events is an output to this port
unfoldable pub NoOutputTo : ℕ → List Event → Type 0
NoOutputTo port [] = Unit {0}
NoOutputTo port (event ∷ events) = (event.kind ≡ Kind.output → event.address ≡ port → ⊥) × NoOutputTo port events

-- What was written to a port is read there, whatever else comes between.
abbrev pub PortsHold : Type 0
PortsHold =
    (m : Machine) (written : Event) (events : List Event) (read : Event) → AcceptedAs Kind.output m written → NoOutputTo written.address events
    → AcceptedAs Kind.input (after_events (after m written) events) read → read.address ≡ written.address
    → (answer_to (after_events (after m written) events) read).datum ≡ written.datum

-- ---- Demand 3

-- an event with no more than a kind and a speaker
abbrev pub spoken : ℕ → ℕ → Event
spoken kind speaker = event_of kind speaker 0 0

abbrev pub look_by : ℕ → Event
look_by card = spoken Kind.look card

-- an acknowledge as it should be
abbrev pub right_acknowledge : Event
right_acknowledge = spoken Kind.acknowledge 0

-- memory and ports have the right lengths
abbrev pub Right : List ℕ → List ℕ → Type 0
Right memory ports = has_wrong_buffers memory ports ≡ false

-- a sensible bus in arbitration, with whatever levels
pub record Arbitrates (bus : Bus) : Type 0 where
  pub sense : makes_sense bus ≡ true
  pub phase : bus.phase ≡ Phase.arbitration

-- the arbitration is still the same, its lines are settled at this number, and an acknowledge with right buffers is accepted next and grants
-- that card
pub record GrantsNext (first bus : Bus) (card : ℕ) : Type 0 where
  pub arbitrates : Arbitrates bus
  pub contenders : bus.contenders ≡ first.contenders
  pub lines : lines_of bus ≡ card
  pub settled : is_settled bus ≡ true
  pub next : (memory ports : List ℕ) → Right memory ports
      → (refusal_on bus (call right_acknowledge memory ports) ≡ Refusal.accepted)
      × (((bus_after bus (call right_acknowledge memory ports)).phase ≡ Phase.granted) × ((bus_after bus (call right_acknowledge memory ports)).granted ≡ card))

-- Four stretches with an accepted look of each contender bring the lines to the highest contender, whatever other calls there are in them and
-- after them, as long as no acknowledge and no reset is accepted.
abbrev pub FourRoundsOfEvents : Type 0
FourRoundsOfEvents =
    (bus : Bus) → Arbitrates bus → (card : ℕ) → Highest (arbitration_of bus) card → (r₁ r₂ r₃ r₄ further : List Call)
    → GoesOn bus (r₁ ++ r₂ ++ r₃ ++ r₄ ++ further)
    → EachLooks bus r₁ → EachLooks (after_all bus r₁) r₂ → EachLooks (after_all bus (r₁ ++ r₂)) r₃ → EachLooks (after_all bus (r₁ ++ r₂ ++ r₃)) r₄
    → GrantsNext bus (after_all bus (r₁ ++ r₂ ++ r₃ ++ r₄ ++ further)) card

-- Settled lines stay as they are, and so does the whole bus.
abbrev pub SettledBusStays : Type 0
SettledBusStays = (bus : Bus) → Arbitrates bus → is_settled bus ≡ true → (calls : List Call) → GoesOn bus calls → after_all bus calls ≡ bus

-- there is a contender that would drive something else after its look, with these buffers
abbrev pub Restless : Bus → List ℕ → List ℕ → Type 0
Restless bus memory ports =
    (card : ℕ)
    × (Contender (arbitration_of bus) card × (get_or (bus_after bus (call (look_by card) memory ports)).driven card 0 ≡ get_or bus.driven card 0 → ⊥))

-- In arbitration an acknowledge with buffers in order is refused exactly if that is so, and then as unsettled.
abbrev pub AcknowledgeRefused : Type 0
AcknowledgeRefused =
    (bus : Bus) → Arbitrates bus → (memory ports : List ℕ) → Right memory ports
    → ((refusal_on bus (call right_acknowledge memory ports) ≡ Refusal.accepted → ⊥) ↔ Restless bus memory ports)
    × ((refusal_on bus (call right_acknowledge memory ports) ≡ Refusal.accepted → ⊥) → refusal_on bus (call right_acknowledge memory ports) ≡ Refusal.unsettled)

-- the accepted acknowledge in a run that granted this card, the highest contender there was, with no accepted acknowledge after it
pub record GrantedBy (bus : Bus) (calls : List Call) (card : ℕ) : Type 0 where
  pub before : List Call
  pub this : Call
  pub later : List Call
  pub here : calls ≡ before ++ this ∷ later
  pub kind : this.event.kind ≡ Kind.acknowledge
  pub accepted : refusal_on (after_all bus before) this ≡ Refusal.accepted
  pub grants : (bus_after (after_all bus before) this).granted ≡ card
  pub highest : Highest (arbitration_of (after_all bus before)) card
  pub last : has_kind Kind.acknowledge (accepted_of (bus_after (after_all bus before) this) later) ≡ false

-- Who holds a grant at the end of a run got it as the highest contender of that time.
abbrev pub GrantedIsHighest : Type 0
GrantedIsHighest =
    (bus : Bus) → bus.phase < Phase.granted → (calls : List Call) → Phase.granted ≤ (after_all bus calls).phase
    → GrantedBy bus calls (after_all bus calls).granted
