-- What a run leaves of an arbitration that goes on: the bus after its accepted looks, and nothing else.
use Prim.Native.Nat.{ℕ}
use mathlib.Core.Path.{◌≡◌, refl, sym, ap, ◌∙◌}
use mathlib.Core.Logic.{◌⊎◌, inl, inr, ⊎_elim}
use mathlib.Core.Bool.{Bool, true, false, not, cond, ◌&&◌, ◌||◌}
use mathlib.Core.List.{List, [], ◌∷◌}
use lib.Dec.{eqb}
use borrow.Author.Tests.{eqb-true, eqb-false, not-true}
use Rattle.words.specs.Among.{beside, every_row}
use Rattle.words.proofs.TestLaws.{both_of, either_of, then_of, else_of}
use Rattle.phases.specs.Phase as Phase
use Rattle.phases.specs.Kind as Kind
use Rattle.bus.specs.Steps.{after_looks_of}
use Rattle.bus.specs.declared.state.Bus.{Bus}
use Rattle.bus.proofs.Granting.{looks_drive}
use Rattle.bus.proofs.LookRuns.{looks_append as bus_looks_append}
use Rattle.bus.specs.declared.step.Step.{Step}
use Rattle.judgement.specs.Table.{Row, row_of, is_cycle_step, is_cycle}
use Rattle.judgement.specs.declared.event.Event.{Event}
use Rattle.judgement.proofs.TableLaws.{row_passes, cycle_row}
use Rattle.events.specs.Machine.{Machine}
use Rattle.events.specs.Step.{bus_by, refusal_in}
use Rattle.events.proofs.TakenLaws.{phase_allows, leaves_taken}
use Rattle.events.proofs.Refused.{refused_keeps}
use Rattle.runs.specs.Run.{Call, machine_for, refusal_on, bus_after, after_all, is_accepted, accepted_of, speakers_of, looks_in, GoesOn}
use Rattle.runs.proofs.RunLaws.{looks_append, goes_on}

-- the look that an event of a kind is, if it is one
look_of : ℕ → Event → List ℕ
look_of kind event = cond (eqb kind Kind.look) (event.speaker ∷ []) []

-- an accepted event of this kind ends the arbitration
ends_it : ℕ → Bool
ends_it kind = eqb kind Kind.acknowledge || eqb kind Kind.reset

-- a cycle, which is no look
only_cycles : Bool → ℕ → Bool
only_cycles cycle kind = cycle && not (eqb kind Kind.look)

-- the kinds that arbitration allows, but for those that end it: cycles, and looks
allowed_in_arbitration : (kind : ℕ) → (row_of kind).allows Phase.arbitration ≡ true → ends_it kind ≡ false
    → (only_cycles (is_cycle kind) kind ≡ true) ⊎ (kind ≡ Kind.look)
unfolding every_row ends_it only_cycles
allowed_in_arbitration kind allowed goes_on =
    let either = then_of ((row_of kind).allows Phase.arbitration) _ (row_passes listed refl kind (λ none. refl)) allowed in
    ⊎_elim inl (λ look. inr (eqb-true _ _ look))
    (either_of (only_cycles (is_cycle kind) kind) (eqb kind Kind.look) (else_of (ends_it kind) _ either goes_on))
  where
    listed : ℕ → Row → Bool
    listed k r = not (r.allows Phase.arbitration) || (ends_it k || (only_cycles (is_cycle_step r.step) k || eqb k Kind.look))

-- an event of a kind that arbitration allows, and that doesn't end it, leaves the bus after that look
by_kind : (bus : Bus) (event : Event) (kind : ℕ) → (row_of kind).allows Phase.arbitration ≡ true → ends_it kind ≡ false
    → bus_by (row_of kind).step bus event ≡ after_looks_of bus (look_of kind event)
unfolding beside after_looks_of look_of only_cycles
by_kind bus event kind allowed goes_on = ⊎_elim cycle (λ look. rw look) (allowed_in_arbitration kind allowed goes_on)
  where
    cycle : only_cycles (is_cycle kind) kind ≡ true → bus_by (row_of kind).step bus event ≡ after_looks_of bus (look_of kind event)
    cycle is =
        let each = both_of (is_cycle kind) (not (eqb kind Kind.look)) is in
        let other : eqb kind Kind.look ≡ false = not-true _ each.1 in
        ap (λ (s : Step). bus_by s bus event) (cycle_row kind each.0).step ∙ rw other

-- the same of a call that may be refused
one_call : (bus : Bus) (c : Call) → bus.phase ≡ Phase.arbitration
    → (is_accepted bus c ≡ true → (eqb c.event.kind Kind.acknowledge ≡ false) × (eqb c.event.kind Kind.reset ≡ false))
    → bus_after bus c ≡ after_looks_of bus (looks_in bus (c ∷ []))
unfolding accepted_of speakers_of look_of after_looks_of ends_it
one_call bus c phase stays = go (is_accepted bus c) refl
  where
    go : (b : Bool) → is_accepted bus c ≡ b → bus_after bus c ≡ after_looks_of bus (speakers_of Kind.look (cond b (c.event ∷ []) []))
    go true e =
        let m = machine_for bus c in
        let event = c.event in
        let ok = eqb-true (refusal_in m event) 0 e in
        ap (λ (x : Machine). x.bus) (leaves_taken m event ok)
        ∙ by_kind bus event event.kind (rw phase at (phase_allows m event ok event.kind refl)) (rw ((stays e).0, (stays e).1))
    go false e = ap (λ (x : Machine). x.bus) (refused_keeps (machine_for bus c) c.event (eqb-false (refusal_on bus c) 0 e))

-- looks leave the phase, the contenders and what is granted
looks_keep : (bus : Bus) → bus.phase ≡ Phase.arbitration → (looks : List ℕ)
    → ((after_looks_of bus looks).phase ≡ Phase.arbitration) × ((after_looks_of bus looks).contenders ≡ bus.contenders)
looks_keep bus phase looks = let same = looks_drive bus phase looks in (ap (λ (b : Bus). b.phase) same ∙ phase, ap (λ (b : Bus). b.contenders) same)

-- and so of a whole run
pub run_looks : (calls : List Call) (bus : Bus) → bus.phase ≡ Phase.arbitration → GoesOn bus calls → after_all bus calls ≡ after_looks_of bus
    (looks_in bus calls)
unfolding after_all accepted_of speakers_of after_looks_of
run_looks [] bus phase on = refl
run_looks (c ∷ calls) bus phase on =
    run_looks calls (bus_after bus c) (ap (λ (b : Bus). b.phase) first ∙ (looks_keep bus phase (looks_in bus (c ∷ []))).0) here.1
    ∙ ap (λ (b : Bus). after_looks_of b (looks_in (bus_after bus c) calls)) first
    ∙ sym (bus_looks_append bus (looks_in bus (c ∷ [])) (looks_in (bus_after bus c) calls))
    ∙ ap (after_looks_of bus) (sym (looks_append bus (c ∷ []) calls))
  where
    here : (is_accepted bus c ≡ true → (eqb c.event.kind Kind.acknowledge ≡ false) × (eqb c.event.kind Kind.reset ≡ false))
        × GoesOn (bus_after bus c) calls
    here = goes_on bus c calls on

    first : bus_after bus c ≡ after_looks_of bus (looks_in bus (c ∷ []))
    first = one_call bus c phase here.0

pub run_keeps : (calls : List Call) (bus : Bus) → bus.phase ≡ Phase.arbitration → GoesOn bus calls
    → ((after_all bus calls).phase ≡ Phase.arbitration) × ((after_all bus calls).contenders ≡ bus.contenders)
run_keeps calls bus phase on =
    let left = run_looks calls bus phase on in
    let kept = looks_keep bus phase (looks_in bus calls) in
    (ap (λ (b : Bus). b.phase) left ∙ kept.0, ap (λ (b : Bus). b.contenders) left ∙ kept.1)
