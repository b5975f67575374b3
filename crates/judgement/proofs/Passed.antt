-- What an accepted event has passed, and that one which passes everything is accepted.
use Prim.Native.Nat.{ℕ, ◌/◌, ◌<◌}
use mathlib.Core.Path.{◌≡◌, refl, sym, ap, ◌∙◌}
use mathlib.Core.Logic.{⊎_elim}
use mathlib.Core.Bool.{false, ◌||◌, and-eq-true_iff, or-false}
use mathlib.Core.List.{List}
use native.Mathlib.Omega.{arith}
use lib.Dec.{eqb, ltb}
use lib.ListN.{length, get_or}
use borrow.Author.Tests.{eqb-true, eq-eqb, ne_eqb, le-leb, not-false}
use Rattle.words.specs.First.{first_of}
use Rattle.words.proofs.TestLaws.{true_or_false}
use Rattle.words.proofs.FirstLaws.{first_none}
use Rattle.bus.specs.Sense.{is_senseless}
use Rattle.bus.specs.declared.state.Bus.{Bus}
use Rattle.bus.specs.declared.step.Step.{Step}
use Rattle.judgement.specs.Table.{row_of}
use Rattle.judgement.specs.Refusals.{
  has_wrong_buffers,
  is_malformed,
  names_nobody,
  names_unfitted,
  is_wrong_phase,
  is_not_its_turn,
  is_unsettled,
  is_odd_word,
  is_absent,
}
use Rattle.judgement.specs.Judge.{Refused, Takes, sound_refusal, refusal_of, number_given, verdict_on, sound_verdict}
use Rattle.judgement.specs.Promises.{VerdictNumber, VerdictStep, LengthsAsked, MemoryAbsent, PortAbsent}
use Rattle.judgement.specs.declared.event.Event.{Event}

module _ (bus : Bus) (event : Event) where
  -- no reason of a sound call applies
  pub record Passed : Type 0 where
    pub formed : is_malformed event ≡ false
    pub names : names_nobody event ≡ false
    pub fitted : names_unfitted bus.fitted event ≡ false
    pub phase : is_wrong_phase bus event ≡ false
    pub turn : is_not_its_turn bus event ≡ false
    pub settled : is_unsettled bus event ≡ false
    pub even : is_odd_word event ≡ false
    pub there : is_absent bus.pages event ≡ false

  pub passed : sound_refusal bus event ≡ 0 → Passed
  unfolding sound_refusal
  passed e =
      let r3 = first_none _ _ refl e in
      let r4 = first_none _ _ refl r3.1 in
      let r5 = first_none _ _ refl r4.1 in
      let r6 = first_none _ _ refl r5.1 in
      let r7 = first_none _ _ refl r6.1 in
      let r8 = first_none _ _ refl r7.1 in
      let r9 = first_none _ _ refl r8.1 in
      let rA = first_none _ _ refl r9.1 in
      record {
        formed = r3.0;
        names = r4.0;
        fitted = r5.0;
        phase = r6.0;
        turn = r7.0;
        settled = r8.0;
        even = r9.0;
        there = rA.0;
      }

  pub accepts : Passed → sound_refusal bus event ≡ 0
  unfolding sound_refusal first_of
  accepts p = rw (p.formed, p.names, p.fitted, p.phase, p.turn, p.settled, p.even, p.there)

  -- with right buffers and a sensible state nothing else is asked
  pub sound_call : (memory ports : List ℕ) → has_wrong_buffers memory ports ≡ false → is_senseless bus ≡ false
      → refusal_of memory ports bus event ≡ sound_refusal bus event
  unfolding refusal_of sound_refusal first_of
  sound_call memory ports lengths sense = rw (lengths, sense)

  pub accepted_call : (memory ports : List ℕ) → refusal_of memory ports bus event ≡ 0
      → (has_wrong_buffers memory ports ≡ false) × ((is_senseless bus ≡ false) × (sound_refusal bus event ≡ 0))
  unfolding refusal_of sound_refusal
  accepted_call memory ports e =
      let r1 = first_none _ _ refl e in
      let r2 = first_none _ _ refl r1.1 in
      (r1.0, (r2.0, r2.1))

-- ---- The verdict

pub verdict_number : VerdictNumber
unfolding sound_verdict
verdict_number bus event = go (sound_refusal bus event)
  where
    go : (number : ℕ) → number_given (verdict_on number event) ≡ number
    go number = ⊎_elim (λ none. rw none (sym (eqb-true number 0 none))) (λ some. rw some) (true_or_false (eqb number 0))

pub verdict_step : VerdictStep
unfolding sound_verdict
verdict_step bus event e = rw e

-- the other way round: what a refusal says, and what a step
pub refused_says : (bus : Bus) (event : Event) (number : ℕ) → Refused number ≡ sound_verdict bus event
    → (sound_refusal bus event ≡ number) × (number ≡ 0 → ⊥)
refused_says bus event number e =
    let given : sound_refusal bus event ≡ number = sym (verdict_number bus event) ∙ ap number_given (sym e) in (
      given,
      λ none.
          let step : Refused number ≡ Takes (row_of event.kind).step = e ∙ verdict_step bus event (given ∙ none) in
          let never : ◌≡◌ {A = ℕ} 0 1 = cc in
          omega arith,
    )

pub taken_says : (bus : Bus) (event : Event) (step : Step) → Takes step ≡ sound_verdict bus event
    → (sound_refusal bus event ≡ 0) × (step ≡ (row_of event.kind).step)
taken_says bus event step e =
    let none : sound_refusal bus event ≡ 0 = sym (verdict_number bus event) ∙ ap number_given (sym e) in
    let same : Takes step ≡ Takes (row_of event.kind).step = e ∙ verdict_step bus event none in
    (none, cc)

-- ---- The lengths

pub lengths_asked : LengthsAsked
lengths_asked memory ports = (
  λ right.
      let both = (and-eq-true_iff (eqb (length memory) 0x10000) (eqb (length ports) 0x100)).0 (not-false _ right) in
      (eqb-true (length memory) 0x10000 both.0, eqb-true (length ports) 0x100 both.1),
  λ sizes. rw (eq-eqb (length memory) 0x10000 sizes.0, eq-eqb (length ports) 0x100 sizes.1),
)

-- ---- Where nothing answers

pub memory_absent : MemoryAbsent
memory_absent pages event low high =
    let no : (k : ℕ) → 0x0A < k → eqb event.kind k ≡ false = λ k above. ne_eqb event.kind k (λ e. omega (arith, high, above, e)) in
    rw (le-leb 0x06 event.kind low, le-leb event.kind 0x0A high, no 0x0B (omega arith), no 0x0C (omega arith))
    (or-false (ltb 0xFFFF event.address || eqb (get_or pages (event.address / 0x1000) 0) 0))

pub port_absent : PortAbsent
port_absent pages event = ⊎_elim (λ e. rw e refl) (λ e. rw e refl)
