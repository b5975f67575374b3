-- The judgement of an event: the lowest-numbered refusal that applies, or the step of its kind (01, "Refusals and their order").
use Rattle.std.specs.Prelude.{ℕ, cond, List, [], ◌∷◌, eqb}
use Rattle.words.specs.First.{Reason, reason, first_of}
use Rattle.bus.specs.Refusal as Refusal
use Rattle.bus.specs.Sense.{is_senseless}
use Rattle.bus.specs.declared.state.Bus.{Bus}
use Rattle.bus.specs.declared.step.Step.{Step}
use Rattle.judgement.specs.Table.{row_of}
use Rattle.judgement.specs.Refusals.{
  has_wrong_buffers,
  is_malformed,
  names_nobody,
  names_unfitted,
  is_wrong_phase,
  is_not_its_turn,
  is_unsettled,
  is_odd_word,
  is_absent,
}
use Rattle.judgement.specs.declared.event.Event.{Event}

-- from 06 on
abbrev pub turn_reasons : Bus → Event → List Reason
turn_reasons bus event =
    reason Refusal.wrong_phase (is_wrong_phase bus event)
    ∷ reason Refusal.not_its_turn (is_not_its_turn bus event)
    ∷ reason Refusal.unsettled (is_unsettled bus event)
    ∷ reason Refusal.odd_word (is_odd_word event)
    ∷ reason Refusal.absent (is_absent bus.pages event)
    ∷ []

-- all that is judged where buffers and state are known to be sound
abbrev pub sound_reasons : Bus → Event → List Reason
sound_reasons bus event =
    reason Refusal.malformed (is_malformed event)
    ∷ reason Refusal.nobody_named (names_nobody event)
    ∷ reason Refusal.not_fitted (names_unfitted bus.fitted event)
    ∷ turn_reasons bus event

-- all of them
abbrev pub reasons_against : List ℕ → List ℕ → Bus → Event → List Reason
reasons_against memory ports bus event =
    reason Refusal.wrong_buffers (has_wrong_buffers memory ports)
    ∷ reason Refusal.senseless (is_senseless bus)
    ∷ sound_reasons bus event

unfoldable pub sound_refusal : Bus → Event → ℕ
sound_refusal bus event = first_of (sound_reasons bus event)

unfoldable pub refusal_of : List ℕ → List ℕ → Bus → Event → ℕ
refusal_of memory ports bus event = first_of (reasons_against memory ports bus event)

-- ---- The verdict

-- a refusal by its number, or the step to take
pub data Verdict : Type 0 where
  Refused : ℕ → Verdict
  Takes : Step → Verdict

-- the number that is answered
abbrev pub number_given : Verdict → ℕ
number_given (Refused number) = number
number_given (Takes step) = Refusal.accepted

-- the refusal, or the kind's step where the number says that there is none
abbrev pub verdict_on : ℕ → Event → Verdict
verdict_on number event = cond (eqb number Refusal.accepted) (Takes (row_of event.kind).step) (Refused number)

unfoldable pub sound_verdict : Bus → Event → Verdict
sound_verdict bus event = verdict_on (sound_refusal bus event) event
