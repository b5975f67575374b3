-- Wrong lengths write nothing; else a call is the model's, a run of calls is a run of the model, and a refused call keeps every byte.
use mathlib.Core.Path.{◌≡◌, refl, sym, ap, subst, ◌∙◌}
use mathlib.Core.Logic.{⊎_elim}
use mathlib.Core.Bool.{Bool, true, false, not, true≢false}
use mathlib.Core.List.{List, [], ◌∷◌}
use Prim.Native.Nat.{ℕ}
use native.Mathlib.Decide.{ℕ_discrete}
use native.Mathlib.Omega.{arith}
use lib.ListN.{length}
use borrow.Author.Tests.{eqb-true, eq-eqb}
use Rattle.words.specs.First.{first_of}
use Rattle.words.proofs.TestLaws.{true_or_false, then_pick}
use Rattle.bus.specs.Sense.{makes_sense}
use Rattle.bus.specs.Setup.{setup_of}
use Rattle.bus.specs.Settle.{settle_refusal, settle_of}
use Rattle.bus.specs.declared.state.Bus.{Bus}
use Rattle.bus.proofs.SenseLaws.{sense_means}
use Rattle.bus.proofs.SetUp.{setup_makes_sense}
use Rattle.bus.proofs.Kept.{sense_kept_by_settle}
use Rattle.bus.proofs.SettleAnswers.{settle_refused_keeps}
use Rattle.judgement.specs.Refusals.{has_wrong_buffers}
use Rattle.judgement.specs.declared.event.Event.{Event}
use Rattle.judgement.proofs.Passed.{accepted_call}
use Rattle.events.specs.Machine.{Machine, machine}
use Rattle.events.specs.Step.{refusal_in, after, answer_to}
use Rattle.events.proofs.Refused.{refused_keeps, answers_refusal}
use Rattle.events.proofs.Stays.{sense_kept_by_events}
use Rattle.s100_c.specs.Layout.{state_size, is_state, state_bytes, bus_in, answer_size, is_answer, answer_in}
use Rattle.s100_c.specs.Calls.{Lent, lent, machine_in, places_fit, step_answers, written, step_leaves, settle_leaves}
use Rattle.runs.specs.Run.{bus_after, after_all}
use Rattle.s100_c.specs.Run.{Placed, state_after, bytes_after, calls_taken}
use Rattle.s100_c.specs.Promises.{
  Whole,
  SetupMisfits,
  StepMisplaced,
  StepMisfits,
  SettleMisfits,
  SetupIsTheSetup,
  StepIsTheStep,
  AnswerIsTheAnswer,
  SettleIsTheSettle,
  RunIsTheRun,
  StepRefusedKeeps,
  SettleRefusedKeepsBytes,
}
use Rattle.s100_c.proofs.CallLaws.{lengths_fit, refused_first, first_answer}
use Rattle.s100_c.proofs.ReadBack.{state_reads_back, sensible_reads_back, bytes_whole, bytes_read_back, answer_bytes_read_back}

-- ---- Wrong lengths

pub setup_misfits : SetupMisfits
setup_misfits given state misfit = rw misfit (refl, refl)

pub step_misplaced : StepMisplaced
unfolding step_answers step_leaves
step_misplaced given event misplaced = rw misplaced (refl, refl)

pub step_misfits : StepMisfits
unfolding step_answers step_leaves
step_misfits given event places misfit = rw (places, misfit) (sym (first_answer (machine_in given) event misfit), refl)

pub settle_misfits : SettleMisfits
settle_misfits state cards looks misfit = rw misfit (refl, (refl, refl))

-- ---- Sixteen pages and levels stay sixteen

sensible_whole : (bus : Bus) → makes_sense bus ≡ true → Whole bus
sensible_whole bus sense = let s = (sense_means bus).0 sense in (s.chassis.sixteen_pages, s.driving.sixteen_levels)

not_senseless : (b : Bool) → not b ≡ false → b ≡ true
not_senseless true e = refl
not_senseless false e = absurd (true≢false e)

after_whole : (m : Machine) (event : Event) → Whole m.bus → Whole (after m event).bus
after_whole m event whole = go (ℕ_discrete (refusal_in m event) 0)
  where
    go : Dec (refusal_in m event ≡ 0) → Whole (after m event).bus
    go (yes ok) =
        let sense = not_senseless (makes_sense m.bus) (accepted_call m.bus event m.memory m.ports ok).1.0 in
        sensible_whole (after m event).bus (sense_kept_by_events m event sense)
    go (no other) = subst (λ (n : Machine). Whole n.bus) (sym (refused_keeps m event other)) whole

settle_senseless : (bus : Bus) (cards : List ℕ) → makes_sense bus ≡ false → (settle_of bus cards).bus ≡ bus
unfolding settle_of settle_refusal first_of
settle_senseless bus cards senseless = rw senseless refl

settle_whole : (bus : Bus) (cards : List ℕ) → Whole bus → Whole (settle_of bus cards).bus
settle_whole bus cards whole =
    ⊎_elim
    (λ sense. sensible_whole (settle_of bus cards).bus (sense_kept_by_settle bus cards sense))
    (λ senseless. subst Whole (sym (settle_senseless bus cards senseless)) whole)
    (true_or_false (makes_sense bus))

-- ---- A call is the model's

pub setup_is_the_setup : SetupIsTheSetup
setup_is_the_setup given state fits =
    let sixteen = (lengths_fit (length given.pages) (length state) 16 state_size fits).0 in
    rw fits (refl, (sensible_reads_back (setup_of given).bus (setup_makes_sense given sixteen)).1)

places_long : (given : Lent) → places_fit given ≡ true → length given.state ≡ state_size
places_long given places = (lengths_fit (length given.state) (length given.answer) state_size answer_size places).0

places_whole : (given : Lent) → places_fit given ≡ true → Whole (bus_in given.state)
places_whole given places = bytes_whole given.state (places_long given places)

step_answered : (given : Lent) (event : Event) → places_fit given ≡ true → step_answers given event ≡ (answer_to (machine_in given) event).refusal
unfolding step_answers
step_answered given event places = rw places refl

-- with every length right
step_leaves_holds : (given : Lent) (event : Event) → places_fit given ≡ true → has_wrong_buffers given.memory given.ports ≡ false
    → step_leaves given event ≡ written given event
unfolding step_leaves
step_leaves_holds given event places fits = rw (places, fits) refl

pub step_is_the_step : StepIsTheStep
step_is_the_step given event places = (
  step_answered given event places,
  ⊎_elim
      (λ misfit.
      let first = refused_first (machine_in given) event misfit in
      ap machine_in (step_misfits given event places misfit).1 ∙ sym (refused_keeps (machine_in given) event (λ ok. omega (arith, ok, first))))
      (λ fits.
      let m = machine_in given in
      ap machine_in (step_leaves_holds given event places fits)
      ∙ ap (λ (b : Bus). machine b (after m event).memory (after m event).ports)
      (state_reads_back (after m event).bus (after_whole m event (places_whole given places))).1)
      (true_or_false (has_wrong_buffers given.memory given.ports)),
)

pub answer_is_the_answer : AnswerIsTheAnswer
answer_is_the_answer given event places fits =
    ap (λ (l : Lent). answer_in l.answer) (step_leaves_holds given event places fits) ∙ (answer_bytes_read_back (answer_to (machine_in given) event)).1

pub settle_is_the_settle : SettleIsTheSettle
settle_is_the_settle state cards looks fits =
    let whole = settle_whole (bus_in state) cards (bytes_whole state (eqb-true (length state) state_size fits)) in
    rw fits (refl, ((state_reads_back (settle_of (bus_in state) cards).bus whole).1, refl))

-- ---- Runs

step_state : (given : Lent) (event : Event) → places_fit given ≡ true → is_state (step_leaves given event).state ≡ true
step_state given event places =
    ⊎_elim
    (λ misfit. ap (λ (l : Lent). is_state l.state) (step_misfits given event places misfit).1 ∙ eq-eqb _ state_size (places_long given places))
    (λ fits.
    ap (λ (l : Lent). is_state l.state) (step_leaves_holds given event places fits)
    ∙ eq-eqb _ state_size (state_reads_back (after (machine_in given) event).bus (after_whole (machine_in given) event (places_whole given places))).0)
    (true_or_false (has_wrong_buffers given.memory given.ports))

-- a call of a run that comes to the bus, and one that doesn't
taken_call : (c : Placed) (state : List ℕ) → is_state state ≡ true → is_answer c.answer ≡ true
    → (is_state (state_after state c) ≡ true) × (bus_in (state_after state c) ≡ bus_after (bus_in state) c.call)
taken_call c state fits place =
    let given = lent state c.call.memory c.call.ports c.answer in
    let places : places_fit given ≡ true = rw fits place in
    (step_state given c.call.event places, ap (λ (m : Machine). m.bus) (step_is_the_step given c.call.event places).1)

lost_call : (c : Placed) (state : List ℕ) → is_state state ≡ true → is_answer c.answer ≡ false → state_after state c ≡ state
lost_call c state fits none =
    let given = lent state c.call.memory c.call.ports c.answer in
    let places : places_fit given ≡ false = rw fits none in
    ap (λ (l : Lent). l.state) (step_misplaced given c.call.event places).1

pub run_is_the_run : RunIsTheRun
unfolding bytes_after calls_taken after_all
run_is_the_run [] state fits = (fits, refl)
run_is_the_run (c ∷ calls) state fits =
    ⊎_elim
    (λ place.
    let next = taken_call c state fits place in
    let later = run_is_the_run calls (state_after state c) next.0 in
    (later.0, rw place (later.1 ∙ ap (λ (b : Bus). after_all b (calls_taken calls)) next.1)))
    (λ none.
    let same = lost_call c state fits none in
    let later = run_is_the_run calls (state_after state c) (ap is_state same ∙ fits) in
    (later.0, rw none (later.1 ∙ ap (λ (l : List ℕ). after_all (bus_in l) (calls_taken calls)) same)))
    (true_or_false (is_answer c.answer))

-- ---- Refused

pub step_refused_keeps : StepRefusedKeeps
step_refused_keeps given event bytes refused = ⊎_elim in_place (λ misplaced. same (step_misplaced given event misplaced).1) (true_or_false (places_fit given))
  where
    Kept : Lent → Type 0
    Kept left = (left.state ≡ given.state) × ((left.memory ≡ given.memory) × (left.ports ≡ given.ports))

    same : step_leaves given event ≡ given → Kept (step_leaves given event)
    same e = (ap (λ (l : Lent). l.state) e, (ap (λ (l : Lent). l.memory) e, ap (λ (l : Lent). l.ports) e))

    in_place : places_fit given ≡ true → Kept (step_leaves given event)
    in_place places =
        ⊎_elim
        (λ misfit. same (step_misfits given event places misfit).1)
        (λ fits.
        let done = step_leaves_holds given event places fits in
        let m = machine_in given in
        let kept = refused_keeps m event (λ ok. refused (step_answered given event places ∙ answers_refusal m event ∙ ok)) in (
          ap (λ (l : Lent). l.state) done
              ∙ ap (λ (m : Machine). state_bytes m.bus) kept
              ∙ (bytes_read_back given.state (places_long given places) bytes).1,
          (
            ap (λ (l : Lent). l.memory) done ∙ ap (λ (m : Machine). m.memory) kept,
            ap (λ (l : Lent). l.ports) done ∙ ap (λ (m : Machine). m.ports) kept,
          ),
        ))
        (true_or_false (has_wrong_buffers given.memory given.ports))

pub settle_refused_keeps_bytes : SettleRefusedKeepsBytes
settle_refused_keeps_bytes state cards bytes refused = go (is_state state) refl
  where
    go : (b : Bool) → is_state state ≡ b → settle_leaves state cards ≡ state
    go true fits =
        let settled = settle_is_the_settle state cards 0 fits in
        let kept = (settle_refused_keeps (bus_in state) cards (λ ok. refused (settled.0 ∙ ok))).0 in
        sym (then_pick state fits (sym (ap state_bytes kept ∙ (bytes_read_back state (eqb-true (length state) state_size fits) bytes).1)))
    go false misfit = (settle_misfits state cards 0 misfit).1.0
