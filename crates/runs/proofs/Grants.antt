-- Who holds a grant at the end of a run got it as the highest contender; and no run from setup meets a senseless state.
use Prim.Native.Nat.{ℕ, ◌≤◌}
use mathlib.Core.Path.{◌≡◌, refl, sym, subst, ap, ap₂, ◌∙◌}
use mathlib.Core.Logic.{◌⊎◌, inl, inr, ⊎_elim}
use mathlib.Core.Bool.{Bool, true, false, not, cond, ◌&&◌, ◌||◌, true≢false}
use mathlib.Core.List.{List, [], ◌∷◌, ◌++◌, append-nil, append_assoc}
use native.Mathlib.Omega.{arith}
use lib.Dec.{eqb, lit<, lit≤}
use borrow.Author.Tests.{eqb-true, eqb-false, not-false}
use Rattle.words.specs.Among.{beside, every_row}
use Rattle.words.specs.First.{applies_as}
use Rattle.words.proofs.TestLaws.{true_or_false, both_of, either_of, then_of}
use Rattle.lines.specs.Arbitration.{Highest}
use Rattle.phases.specs.Phase as Phase
use Rattle.phases.specs.Kind as Kind
use Rattle.bus.specs.Refusal as Refusal
use Rattle.bus.specs.Sense.{makes_sense}
use Rattle.bus.specs.Setup.{setup_of}
use Rattle.bus.specs.State.{changed, arbitration_of, is_settled}
use Rattle.bus.specs.Step.{step_by}
use Rattle.bus.specs.Steps.{may_request, may_look, may_transfer, transferred}
use Rattle.bus.specs.declared.state.Bus.{Bus}
use Rattle.bus.specs.declared.step.Step.{Step}
use Rattle.bus.proofs.SenseLaws.{sense_means}
use Rattle.bus.proofs.SetUp.{setup_makes_sense}
use Rattle.bus.proofs.Granting.{settled_show_it}
use Rattle.judgement.specs.Table.{Row, row_of}
use Rattle.judgement.specs.declared.event.Event.{Event}
use Rattle.judgement.proofs.TableLaws.{row_passes}
use Rattle.events.specs.Machine.{Machine}
use Rattle.events.specs.Step.{bus_by, refusal_in, after, answer_to}
use Rattle.events.proofs.TakenLaws.{in_sense, has_passed, phase_allows, leaves_taken}
use Rattle.events.proofs.EachStep.{acknowledge_does}
use Rattle.events.proofs.Refused.{refused_keeps, answers_refusal, refused_by_number}
use Rattle.runs.specs.Run.{Call, machine_for, refusal_on, bus_after, after_all, is_accepted, accepted_of, has_kind}
use Rattle.runs.specs.Promises.{NeverSenseless, GrantedBy, GrantedIsHighest}
use Rattle.runs.proofs.RunLaws.{after_append, accepted_append, has_append, sense_in_runs}

-- ---- Which steps lead to a granted phase

is_acknowledge : Step → Bool
is_acknowledge Step.Request = false
is_acknowledge Step.Look = false
is_acknowledge Step.Acknowledge = true
is_acknowledge Step.BeginTransferOne = false
is_acknowledge Step.TakeBus = false
is_acknowledge Step.Cycle = false
is_acknowledge Step.BeginTransferTwo = false
is_acknowledge Step.GiveBack = false
is_acknowledge Step.Reset = false

-- the phase is a granted one only after an acknowledge, or as it was before, with the same card
Holds : Bus → Bus → Bool → Type 0
Holds bus left acknowledges =
    Phase.granted ≤ left.phase → (acknowledges ≡ true) ⊎ ((Phase.granted ≤ bus.phase) × (left.granted ≡ bus.granted))

-- by whether the step may be taken
either_holds : (bus taken : Bus) (b : Bool) → (b ≡ true → Holds bus taken false) → Holds bus (cond b taken bus) false
unfolding Holds
either_holds bus taken true holds h = holds refl h
either_holds bus taken false holds h = inr (h, refl)

transfer_holds : (bus : Bus) (from to card : ℕ) → Phase.granted ≤ from → Holds bus (transferred bus from to card) false
unfolding Holds
transfer_holds bus from to card late =
    either_holds bus (changed bus to bus.contenders bus.driven bus.granted) (may_transfer bus from card)
    (λ may h.
    let at : bus.phase ≡ from = eqb-true _ _ (both_of (eqb bus.phase from) (eqb bus.granted card) may).0 in
    inr (omega (arith, at, late), refl))

holds : (step : Step) (bus : Bus) (speaker datum : ℕ) → Holds bus (step_by step bus speaker datum) (is_acknowledge step)
unfolding Holds is_acknowledge
holds Step.Request bus speaker datum = either_holds bus _ (may_request bus datum) (λ may h. absurd (omega (arith, h)))
holds Step.Look bus speaker datum = either_holds bus _ (may_look bus speaker) (λ may h. inr (h, refl))
holds Step.Acknowledge bus speaker datum = λ h. inl refl
holds Step.BeginTransferOne bus speaker datum = transfer_holds bus Phase.granted Phase.transfer_one speaker (lit≤ tt)
holds Step.TakeBus bus speaker datum = transfer_holds bus Phase.transfer_one Phase.owned speaker (lit≤ tt)
holds Step.Cycle bus speaker datum = λ h. inr (h, refl)
holds Step.BeginTransferTwo bus speaker datum = transfer_holds bus Phase.owned Phase.transfer_two speaker (lit≤ tt)
holds Step.GiveBack bus speaker datum = either_holds bus _ (may_transfer bus Phase.transfer_two speaker) (λ may h. absurd (omega (arith, h)))
holds Step.Reset bus speaker datum = λ h. absurd (omega (arith, h))

-- only the acknowledge's row has that step
its_kind : (kind : ℕ) → is_acknowledge (row_of kind).step ≡ true → eqb kind Kind.acknowledge ≡ true
unfolding every_row is_acknowledge
its_kind kind = then_of (is_acknowledge (row_of kind).step) (eqb kind Kind.acknowledge) (row_passes alone refl kind (λ none. refl))
  where
    alone : ℕ → Row → Bool
    alone k r = not (is_acknowledge r.step) || eqb k Kind.acknowledge

-- so it is of an event's kind
kind_holds : (bus : Bus) (event : Event) → Phase.granted ≤ (bus_by (row_of event.kind).step bus event).phase
    → (event.kind ≡ Kind.acknowledge)
    ⊎ ((eqb event.kind Kind.acknowledge ≡ false)
    × ((Phase.granted ≤ bus.phase) × ((bus_by (row_of event.kind).step bus event).granted ≡ bus.granted)))
unfolding Holds
kind_holds bus event h =
    ⊎_elim (λ same. inl (eqb-true _ _ same))
    (λ other.
    ⊎_elim (λ acknowledges. absurd (true≢false (sym (its_kind event.kind acknowledges) ∙ other))) (λ kept. inr (other, kept))
    (holds (row_of event.kind).step bus event.speaker event.datum h))
    (true_or_false (eqb event.kind Kind.acknowledge))

-- ---- Through a run

-- an accepted acknowledge grants the highest contender
highest_granted : (m : Machine) (event : Event) → event.kind ≡ Kind.acknowledge → refusal_in m event ≡ 0
    → Highest (arbitration_of m.bus) (after m event).bus.granted
unfolding beside
highest_granted m event k ok =
    subst (Highest (arbitration_of m.bus)) (sym (ap (λ (x : Machine). x.bus.granted) (acknowledge_does m event (k, ok)).does.leaves))
    (settled_show_it m.bus ((sense_means m.bus).1 (in_sense m event ok)) at still)
  where
    at : m.bus.phase ≡ Phase.arbitration
    at = eqb-true m.bus.phase Phase.arbitration (phase_allows m event ok Kind.acknowledge k)

    still : is_settled m.bus ≡ true
    still = not-false _ (subst (λ (q : ℕ). (eqb q Kind.acknowledge && not (is_settled m.bus)) ≡ false) k (has_passed m event ok).settled)

module _ (bus : Bus) where
  Known : List Call → Type 0
  Known calls = Phase.granted ≤ (after_all bus calls).phase → GrantedBy bus calls (after_all bus calls).granted

  -- one more call at the end of a run, and no accepted acknowledge
  lengthen : (calls : List Call) (c : Call) (card : ℕ) → has_kind Kind.acknowledge (accepted_of (after_all bus calls) (c ∷ [])) ≡ false
      → GrantedBy bus calls card → GrantedBy bus (calls ++ c ∷ []) card
  unfolding after_all
  lengthen calls c card none by = record {
    before = by.before;
    this = by.this;
    later = by.later ++ c ∷ [];
    here = ap (λ (l : List Call). l ++ c ∷ []) by.here ∙ append_assoc by.before (by.this ∷ by.later) (c ∷ []);
    kind = by.kind;
    accepted = by.accepted;
    grants = by.grants;
    highest = by.highest;
    last =
        ap (has_kind Kind.acknowledge) (accepted_append next by.later (c ∷ []))
        ∙ has_append Kind.acknowledge (accepted_of next by.later) (accepted_of (after_all next by.later) (c ∷ []))
        ∙ ap₂ ◌||◌ by.last (ap (λ (b : Bus). has_kind Kind.acknowledge (accepted_of b (c ∷ []))) (sym whole) ∙ none);
  }
    where
      next : Bus
      next = bus_after (after_all bus by.before) by.this

      whole : after_all bus calls ≡ after_all next by.later
      whole = ap (after_all bus) by.here ∙ after_append bus by.before (by.this ∷ by.later)

  one_more : (calls : List Call) (c : Call) → Known calls → Known (calls ++ c ∷ [])
  unfolding Known after_all accepted_of has_kind
  one_more calls c known = rw (after_append bus calls (c ∷ [])) (go (is_accepted here c) refl)
    where
      here : Bus
      here = after_all bus calls

      m : Machine
      m = machine_for here c

      as_before : has_kind Kind.acknowledge (accepted_of here (c ∷ [])) ≡ false → (bus_after here c).granted ≡ here.granted → Phase.granted ≤ here.phase
          → GrantedBy bus (calls ++ c ∷ []) (bus_after here c).granted
      as_before none same at = subst (GrantedBy bus (calls ++ c ∷ [])) (sym same) (lengthen calls c here.granted none (known at))

      go : (b : Bool) → is_accepted here c ≡ b → Phase.granted ≤ (bus_after here c).phase → GrantedBy bus (calls ++ c ∷ []) (bus_after here c).granted
      go false e h =
          let same = refused_keeps m c.event (eqb-false (refusal_on here c) 0 e) in
          as_before (rw e) (ap (λ (x : Machine). x.bus.granted) same) (subst (λ (x : Machine). Phase.granted ≤ x.bus.phase) same h)
      go true e h =
          let ok = eqb-true (refusal_on here c) 0 e in
          let taken = ap (λ (x : Machine). x.bus) (leaves_taken m c.event ok) in
          ⊎_elim
          (λ k. record {
            before = calls;
            this = c;
            later = [];
            here = refl;
            kind = k;
            accepted = ok;
            grants = refl;
            highest = highest_granted m c.event k ok;
            last = refl;
          })
          (λ kept. as_before (rw (e, kept.0)) (ap (λ (b : Bus). b.granted) taken ∙ kept.1.1) kept.1.0)
          (kind_holds here c.event (subst (λ (b : Bus). Phase.granted ≤ b.phase) taken h))

  all_known : (more calls : List Call) → Known calls → Known (calls ++ more)
  all_known [] calls known = subst Known (sym (append-nil calls)) known
  all_known (c ∷ more) calls known = subst Known (append_assoc calls (c ∷ []) more) (all_known more (calls ++ c ∷ []) (one_more calls c known))

pub granted_is_highest : GrantedIsHighest
unfolding Known after_all
granted_is_highest bus early calls = all_known bus calls [] (λ h. absurd (omega (arith, h, early)))

-- ---- Sense

pub never_senseless : NeverSenseless
unfolding applies_as
never_senseless chassis size calls c given = true≢false (sym applies ∙ ap not sense)
  where
    end : Bus
    end = after_all (setup_of chassis).bus calls

    sense : makes_sense end ≡ true
    sense = sense_in_runs (setup_of chassis).bus (setup_makes_sense chassis size) calls

    second : (answer_to (machine_for end c) c.event).refusal ≡ Refusal.senseless
    second = answers_refusal (machine_for end c) c.event ∙ given

    applies : not (makes_sense end) ≡ true
    applies =
        ⊎_elim (λ (t : not (makes_sense end) ≡ true). t) (λ f. absurd (true≢false (sym f)))
        (either_of (not (makes_sense end)) false ((refused_by_number (machine_for end c) c.event Refusal.senseless (lit< tt)).0 second).0)
