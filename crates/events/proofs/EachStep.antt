-- What an accepted event does that is no cycle, kind by kind.
use Prim.Native.Nat.{ℕ, ◌+◌}
use mathlib.Core.Path.{◌≡◌, refl, sym, subst, ap, ◌∙◌}
use mathlib.Core.Bool.{Bool, true, false, not, ◌&&◌, and-eq-true_iff}
use native.Mathlib.Omega.{arith}
use lib.Dec.{eqb}
use lib.ListN.{set}
use borrow.Author.Tests.{eqb-true, eq-eqb, not-false}
use Rattle.words.specs.Among.{is_among, beside}
use Rattle.lines.specs.Look.{look}
use Rattle.lines.specs.Arbitration.{looked}
use Rattle.phases.specs.Phase as Phase
use Rattle.phases.specs.Kind as Kind
use Rattle.phases.specs.Signal.{HOLD, pHLDA, CDSB, disabling, signals_in}
use Rattle.phases.specs.Driver.{drivers_in}
use Rattle.phases.specs.Status.{status_of}
use Rattle.memory.specs.declared.Slave.{Slave}
use Rattle.memory.specs.Cycles.{nothing}
use Rattle.cards.specs.Cards.{some_card, is_within}
use Rattle.cards.proofs.CardLaws.{some_of}
use Rattle.bus.specs.State.{nobody, silent, changed, lines_of, is_settled}
use Rattle.bus.specs.Steps.{may_request, requested, may_look, looked_by, may_acknowledge, acknowledged, may_transfer, transferred, given_back}
use Rattle.bus.specs.declared.state.Bus.{Bus}
use Rattle.judgement.specs.Table.{event_of, has_turn, row_of, is_cycle}
use Rattle.judgement.specs.Refusals.{names_unfitted}
use Rattle.judgement.specs.declared.event.Event.{Event}
use Rattle.events.specs.Machine.{Machine, machine}
use Rattle.events.specs.Cycles.{slave_at}
use Rattle.events.specs.Answers.{signals_with, word_signals}
use Rattle.events.specs.Step.{bus_by}
use Rattle.events.specs.Promises.{
  Does,
  Steps,
  AcceptedAs,
  RequestDoes,
  LookDoes,
  AcknowledgeDoes,
  BeginTransferOneDoes,
  TakeBusDoes,
  BeginTransferTwoDoes,
  GiveBackDoes,
  ResetDoes,
}
use Rattle.events.proofs.CycleLaws.{no_cycle}
use Rattle.events.proofs.TakenLaws.{in_sense, has_passed, phase_allows, speaker_has_turn, does}

-- from the bus that its step makes
steps : (k : ℕ) (m : Machine) (event : Event) → AcceptedAs k m event → is_cycle k ≡ false → (bus : Bus) → bus_by (row_of k).step m.bus event ≡ bus
    → (signals : ℕ) → ((s : Slave) → signals_with bus.phase k s ≡ signals) → status_of k ≡ 0 → Steps m event bus signals (drivers_in bus.phase)
steps k m event ok other bus step signals shown quiet = record {
  does = as_stated;
  drives = ap (λ (x : Machine). drivers_in x.bus.phase) as_stated.leaves;
}
  where
    there : Slave
    there = slave_at m.bus.pages event.address

    left : Machine
    left = machine bus m.memory m.ports

    as_stated : Does m event left signals 0 nothing
    as_stated =
        let same = no_cycle there event m.memory m.ports (ap is_cycle ok.0 ∙ other) in
        subst (λ (s : ℕ). Does m event left s 0 nothing) (shown there)
        (subst (λ (s : ℕ). Does m event left (signals_with bus.phase k there) s nothing) quiet
        (does m event ok.1 k ok.0 bus step m.memory m.ports (sym same.1.0) (sym same.1.1) nothing (sym same.0)))

both : {a b : Bool} → a ≡ true → b ≡ true → (a && b) ≡ true
both {a} {b} e f = (and-eq-true_iff a b).1 (e, f)

-- ---- Asking for the bus

pub request_does : RequestDoes
unfolding is_among beside signals_in drivers_in word_signals status_of
request_does m event ok =
    steps Kind.request m event ok refl (changed m.bus Phase.arbitration event.datum silent nobody) step HOLD (λ s. refl) refl
  where
    free : eqb m.bus.phase Phase.free ≡ true
    free = phase_allows m event ok.1 Kind.request ok.0

    some : some_card event.datum ≡ true
    some = not-false _ (subst (λ (q : ℕ). (eqb q Kind.request && not (some_card event.datum)) ≡ false) ok.0 (has_passed m event ok.1).names)

    within : is_within event.datum m.bus.fitted ≡ true
    within =
        not-false _
        (subst (λ (q : ℕ). names_unfitted m.bus.fitted (event_of q event.speaker event.address event.datum) ≡ false) ok.0
        (has_passed m event ok.1).fitted)

    step : requested m.bus event.datum ≡ changed m.bus Phase.arbitration event.datum silent nobody
    step =
        let may : may_request m.bus event.datum ≡ true = both (both free some) within in
        let at : m.bus.phase ≡ Phase.free = eqb-true _ _ free in
        let none : m.bus.granted ≡ nobody = (in_sense m event ok.1).grant.nobody_elsewhere (λ low high. omega (arith, at, low)) in
        rw (may, none)

-- ---- Arbitration

module _ (m : Machine) (event : Event) (k : ℕ) (ok : AcceptedAs k m event) where
  arbitrating : (row_of k).allows m.bus.phase ≡ eqb m.bus.phase Phase.arbitration → m.bus.phase ≡ Phase.arbitration
  arbitrating column = eqb-true _ _ (sym column ∙ phase_allows m event ok.1 k ok.0)

  nobody_yet : m.bus.phase ≡ Phase.arbitration → m.bus.granted ≡ nobody
  nobody_yet at = (in_sense m event ok.1).grant.nobody_elsewhere (λ low high. omega (arith, at, low))

pub look_does : LookDoes
unfolding looked is_among beside signals_in drivers_in word_signals status_of
look_does m event ok = steps Kind.look m event ok refl reached step HOLD (λ s. refl) refl
  where
    reached : Bus
    reached =
        changed m.bus Phase.arbitration m.bus.contenders (set m.bus.driven event.speaker (look 4 event.speaker (lines_of m.bus))) nobody

    at : m.bus.phase ≡ Phase.arbitration
    at = arbitrating m event Kind.look ok refl

    step : looked_by m.bus event.speaker ≡ reached
    step =
        let may : may_look m.bus event.speaker ≡ true = both (eq-eqb _ _ at) (speaker_has_turn m event ok.1 Kind.look ok.0) in
        rw (may, at, nobody_yet m event Kind.look ok at)

pub acknowledge_does : AcknowledgeDoes
unfolding is_among beside signals_in drivers_in word_signals status_of
acknowledge_does m event ok =
    steps Kind.acknowledge m event ok refl (changed m.bus Phase.granted 0 silent (lines_of m.bus)) step (HOLD + pHLDA) (λ s. refl) refl
  where
    at : m.bus.phase ≡ Phase.arbitration
    at = arbitrating m event Kind.acknowledge ok refl

    some : some_card m.bus.contenders ≡ true
    some = let one = (in_sense m event ok.1).contention.some_in_arbitration at in some_of m.bus.contenders one.0 one.1

    still : is_settled m.bus ≡ true
    still = not-false _ (subst (λ (q : ℕ). (eqb q Kind.acknowledge && not (is_settled m.bus)) ≡ false) ok.0 (has_passed m event ok.1).settled)

    step : acknowledged m.bus ≡ changed m.bus Phase.granted 0 silent (lines_of m.bus)
    step = let may : may_acknowledge m.bus ≡ true = both (both (eq-eqb _ _ at) some) still in rw may

-- ---- Handing the bus over and back

-- the speaker is the granted card, in the phase that its kind asks for
may_transfer_holds : (m : Machine) (event : Event) (k from : ℕ) → AcceptedAs k m event → (row_of k).allows m.bus.phase ≡ eqb m.bus.phase from
    → has_turn (row_of k).speaker m.bus event.speaker ≡ eqb event.speaker m.bus.granted → may_transfer m.bus from event.speaker ≡ true
may_transfer_holds m event k from ok phase speaker =
    both (sym phase ∙ phase_allows m event ok.1 k ok.0)
    (eq-eqb m.bus.granted event.speaker (sym (eqb-true event.speaker m.bus.granted (sym speaker ∙ speaker_has_turn m event ok.1 k ok.0))))

transfer_step : (bus : Bus) (from to card : ℕ) → may_transfer bus from card ≡ true
    → transferred bus from to card ≡ changed bus to bus.contenders bus.driven bus.granted
transfer_step bus from to card may = rw may

pub begin_transfer_one_does : BeginTransferOneDoes
unfolding is_among beside signals_in drivers_in word_signals status_of
begin_transfer_one_does m event ok =
    steps Kind.begin_transfer_one m event ok refl _
    (transfer_step m.bus Phase.granted Phase.transfer_one event.speaker (may_transfer_holds m event Kind.begin_transfer_one Phase.granted ok refl refl))
    (HOLD + pHLDA + disabling)
    (λ s. refl)
    refl

pub take_bus_does : TakeBusDoes
unfolding is_among beside signals_in drivers_in word_signals status_of
take_bus_does m event ok =
    steps Kind.take_bus m event ok refl _
    (transfer_step m.bus Phase.transfer_one Phase.owned event.speaker (may_transfer_holds m event Kind.take_bus Phase.transfer_one ok refl refl))
    (HOLD + pHLDA + disabling + CDSB)
    (λ s. refl)
    refl

pub begin_transfer_two_does : BeginTransferTwoDoes
unfolding is_among beside signals_in drivers_in word_signals status_of
begin_transfer_two_does m event ok =
    steps Kind.begin_transfer_two m event ok refl _
    (transfer_step m.bus Phase.owned Phase.transfer_two event.speaker (may_transfer_holds m event Kind.begin_transfer_two Phase.owned ok refl refl))
    (pHLDA + disabling)
    (λ s. refl)
    refl

pub give_back_does : GiveBackDoes
unfolding is_among beside signals_in drivers_in word_signals status_of
give_back_does m event ok =
    steps Kind.give_back m event ok refl (changed m.bus Phase.free m.bus.contenders m.bus.driven nobody) step 0 (λ s. refl) refl
  where
    step : given_back m.bus event.speaker ≡ changed m.bus Phase.free m.bus.contenders m.bus.driven nobody
    step =
        let may : may_transfer m.bus Phase.transfer_two event.speaker ≡ true = may_transfer_holds m event Kind.give_back Phase.transfer_two ok refl refl in
        rw may

pub reset_does : ResetDoes
unfolding is_among beside signals_in drivers_in word_signals status_of
reset_does m event ok = steps Kind.reset m event ok refl (changed m.bus Phase.free 0 silent nobody) refl 0 (λ s. refl) refl
