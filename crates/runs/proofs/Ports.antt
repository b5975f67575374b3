-- A port holds what was written to it last.
use Prim.Native.Nat.{ℕ}
use mathlib.Core.Path.{◌≡◌, refl, sym, ap, ◌∙◌}
use mathlib.Core.List.{List, [], ◌∷◌}
use native.Mathlib.Decide.{ℕ_discrete}
use lib.ListN.{get_or}
use lib.Seq.{get_or-set_same}
use Rattle.phases.specs.Kind as Kind
use Rattle.judgement.specs.declared.event.Event.{Event}
use Rattle.events.specs.Machine.{Machine}
use Rattle.events.specs.Step.{after}
use Rattle.events.specs.declared.answers.Answer.{Answer}
use Rattle.events.proofs.EachCycle.{in_ports, input_does, output_does}
use Rattle.events.proofs.Stays.{only_outputs, other_bytes_stay}
use Rattle.runs.specs.Run.{after_events}
use Rattle.runs.specs.Promises.{NoOutputTo, PortsHold}

port_stays : (m : Machine) (event : Event) (port : ℕ) → (event.kind ≡ Kind.output → event.address ≡ port → ⊥)
    → get_or (after m event).ports port 0 ≡ get_or m.ports port 0
port_stays m event port none = go (ℕ_discrete event.kind Kind.output)
  where
    go : Dec (event.kind ≡ Kind.output) → get_or (after m event).ports port 0 ≡ get_or m.ports port 0
    go (yes out) = (other_bytes_stay m event port).1 (λ same. none out (sym same))
    go (no other) = ap (λ (l : List ℕ). get_or l port 0) (only_outputs m event other)

held : (m : Machine) (events : List Event) (port : ℕ) → NoOutputTo port events → get_or (after_events m events).ports port 0 ≡ get_or m.ports port 0
unfolding after_events NoOutputTo
held m [] port none = refl
held m (event ∷ events) port none = held (after m event) events port none.1 ∙ port_stays m event port none.0

pub ports_hold : PortsHold
ports_hold m written events read out none ok same =
    ap (λ (a : Answer). a.datum) (input_does end read ok).answers
    ∙ ap (λ (port : ℕ). get_or end.ports port 0) same
    ∙ held (after m written) events written.address none
    ∙ ap (λ (x : Machine). get_or x.ports written.address 0) (output_does m written out).leaves
    ∙ get_or-set_same m.ports written.address written.datum 0 (in_ports Kind.output m written out refl)
  where
    end : Machine
    end = after_events (after m written) events
