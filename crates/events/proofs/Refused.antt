-- Refused events: what they leave, what is answered, and by which number.
use Prim.Native.Nat.{ℕ, ◌<◌, ◌≤◌}
use mathlib.Core.Path.{◌≡◌, refl, sym, ap, ◌∙◌, subst}
use mathlib.Core.Logic.{◌⊎◌, ◌↔◌, inl, inr, ⊎_elim}
use mathlib.Core.Bool.{true, false, cond, not, true≢false, Bool, ◌&&◌}
use native.Mathlib.Omega.{arith}
use lib.Dec.{eqb, leb}
use borrow.Author.Tests.{ne_eqb, le-ltb, lt-leb, eqb-true, leb-true, ltb-false, not-false}
use Rattle.words.specs.First.{applies_as, ascends_from, first_of}
use Rattle.words.specs.Among.{beside, has_beside}
use Rattle.words.proofs.TestLaws.{both_of, neither_of}
use Rattle.words.proofs.FirstLaws.{first_by_number, none_applies}
use Rattle.phases.specs.Phase as Phase
use Rattle.phases.specs.Kind as Kind
use Rattle.phases.specs.Signal.{HOLD, is_on, signals_in}
use Rattle.memory.specs.Cycles.{nothing}
use Rattle.bus.specs.Refusal as Refusal
use Rattle.judgement.specs.Table.{event_of, row_of, lists_speaker, lists_address, most_datum}
use Rattle.judgement.specs.Refusals.{is_wrong_phase}
use Rattle.judgement.specs.Judge.{reasons_against, refusal_of, sound_refusal}
use Rattle.judgement.specs.declared.event.Event.{Event}
use Rattle.judgement.proofs.Passed.{passed, accepted_call, sound_call}
use Rattle.judgement.proofs.TableLaws.{each_kind_has_its_row}
use Rattle.events.specs.Machine.{Machine}
use Rattle.events.specs.Answers.{answer_with, bare, refused_with}
use Rattle.events.specs.Step.{answer_by, refusal_in, after, answer_to, sound_after, sound_answer}
use Rattle.events.specs.Promises.{RefusedKeeps, only_number, RefusedAnswers, RefusedByNumber, AcceptedByNone}
use Rattle.events.specs.Promises.{AcceptedIsWellFormed, SoundStepIsTheStep, RequestInTransferTwo, RequestTooEarly}
use Rattle.events.proofs.TakenLaws.{Formed, is_formed}

pub refused_keeps : RefusedKeeps
unfolding after
refused_keeps m event other = rw (ne_eqb (refusal_in m event) 0 other)

-- the answer with any refusal that isn't 0
answer_refused : (m : Machine) (event : Event) (n : ℕ) → refusal_in m event ≡ n → (n ≡ 0 → ⊥) → answer_to m event ≡ refused_with n m.bus
unfolding answer_to
answer_refused m event n e other = rw (e, ne_eqb n 0 other)

pub refused_answers : RefusedAnswers
refused_answers m event n given = (alone, shown)
  where
    alone : (n ≡ Refusal.wrong_buffers) ⊎ (n ≡ Refusal.senseless) → answer_to m event ≡ only_number n
    alone (inl e) = answer_refused m event n given (λ z. omega (arith, z, e)) ∙ rw e
    alone (inr e) = answer_refused m event n given (λ z. omega (arith, z, e)) ∙ rw e

    shown : Refusal.malformed ≤ n → answer_to m event ≡ answer_with n m.bus (signals_in m.bus.phase) 0 nothing
    shown h = answer_refused m event n given (λ z. omega (arith, z, h)) ∙ rw (lt-leb n Refusal.senseless h)

-- n applies, and nothing lower
abbrev FirstAt : Machine → Event → ℕ → Type 0
FirstAt m event n =
    (applies_as n (reasons_against m.memory m.ports m.bus event) ≡ true)
    × ((k : ℕ) → k < n → applies_as k (reasons_against m.memory m.ports m.bus event) ≡ false)

-- the number answered is the refusal's
pub answers_refusal : (m : Machine) (event : Event) → (answer_to m event).refusal ≡ refusal_in m event
unfolding answer_to
answers_refusal m event = go (eqb (refusal_in m event) 0) refl (leb (refusal_in m event) Refusal.senseless)
  where
    go : (a : Bool) → eqb (refusal_in m event) 0 ≡ a → (b : Bool)
        → (cond a (answer_by (row_of event.kind).step m event)
        (cond b (bare (refusal_in m event)) (answer_with (refusal_in m event) m.bus (signals_in m.bus.phase) 0 nothing))).refusal ≡ refusal_in m event
    go true e b = sym (eqb-true _ _ e)
    go false e true = refl
    go false e false = refl

pub refused_by_number : RefusedByNumber
unfolding refusal_of ascends_from
refused_by_number m event n h =
    subst (λ (given : ℕ). (given ≡ n) ↔ FirstAt m event n) (sym (answers_refusal m event))
    (first_by_number (reasons_against m.memory m.ports m.bus event) refl n h)

pub accepted_by_none : AcceptedByNone
unfolding refusal_of ascends_from
accepted_by_none m event =
    subst (λ (given : ℕ). (given ≡ 0) ↔ ((n : ℕ) → applies_as n (reasons_against m.memory m.ports m.bus event) ≡ false)) (sym (answers_refusal m event))
    (none_applies (reasons_against m.memory m.ports m.bus event) refl)

pub sound_step_is_the_step : SoundStepIsTheStep
unfolding after answer_to sound_after sound_answer
sound_step_is_the_step m event lengths sense = rw (sound_call m.bus event m.memory m.ports lengths (ap not sense)) (refl, refl)

-- ---- A request in transfer two

wrong_then : (m : Machine) (event : Event) → m.bus.phase ≡ Phase.transfer_two → event.kind ≡ Kind.request → is_wrong_phase m.bus event ≡ true
unfolding beside
wrong_then m event p k = rw (k, p)

pub request_in_transfer_two : RequestInTransferTwo
unfolding beside signals_in
request_in_transfer_two m event p k = (
  ap (λ (q : ℕ). is_on HOLD (signals_in q)) p,
  λ ok. true≢false (sym (wrong_then m event p k) ∙ (passed m.bus event (accepted_call m.bus event m.memory m.ports ok).1.1).phase),
)

pub request_too_early : RequestTooEarly
unfolding sound_refusal first_of beside has_beside
request_too_early m cards p right sense sixteen some within =
    sound_call m.bus (event_of Kind.request 0 0 cards) m.memory m.ports right (ap not sense)
    ∙ rw (le-ltb 0xFFFF cards sixteen, some, within, p)

-- ---- The fields of an accepted event

pub accepted_is_well_formed : AcceptedIsWellFormed
unfolding beside
accepted_is_well_formed m event ok = record {
  kind = (leb-true _ _ known.0, leb-true _ _ known.1);
  speaker = ltb-false _ _ formed.speaker;
  no_speaker = λ none. blank (lists_speaker event.kind) event.speaker none stray.0;
  no_address = λ none. blank (lists_address event.kind) event.address none stray.1;
  datum = formed.datum;
  byte = ⊎_elim (narrow Kind.byte_write refl) (narrow Kind.output refl);
}
  where
    formed : Formed m event ok
    formed = is_formed m event ok

    known : (leb Kind.request event.kind ≡ true) × (leb event.kind Kind.last ≡ true)
    known = both_of _ _ (sym (each_kind_has_its_row event.kind) ∙ formed.kind)

    stray_in : Bool → ℕ → Bool
    stray_in lists field = not lists && not (eqb field 0)

    stray : (stray_in (lists_speaker event.kind) event.speaker ≡ false) × (stray_in (lists_address event.kind) event.address ≡ false)
    stray = neither_of (stray_in (lists_speaker event.kind) event.speaker) (stray_in (lists_address event.kind) event.address) formed.no_stray

    blank : (lists : Bool) (field : ℕ) → lists ≡ false → stray_in lists field ≡ false → field ≡ 0
    blank true field none e = absurd (true≢false none)
    blank false field none e = eqb-true _ _ (not-false _ e)

    narrow : (k : ℕ) → most_datum k ≡ 0xFF → event.kind ≡ k → event.datum ≤ 0xFF
    narrow k most e = subst (λ (top : ℕ). event.datum ≤ top) (ap most_datum e ∙ most) formed.datum
