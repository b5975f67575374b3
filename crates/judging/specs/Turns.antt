-- The judgement from 06 on, by the step: what kind and phase say together, and what is left to ask then.
use Rattle.std.specs.Prelude.{ℕ, Bool, cond, not, eqb, Result, Ok, Err}
use Rattle.words.specs.First.{first_of}
use Rattle.cards.specs.Cards.{card_in}
use Rattle.bus.specs.Refusal as Refusal
use Rattle.bus.specs.State.{is_settled}
use Rattle.bus.specs.Told.{number_of}
use Rattle.bus.specs.declared.refusal.Refusal as Declared
use Rattle.bus.specs.declared.state.Bus.{Bus}
use Rattle.bus.specs.declared.step.Step.{Step}
use Rattle.judgement.specs.Table.{master_of, row_of}
use Rattle.judgement.specs.Refusals.{is_odd_word, is_absent}
use Rattle.judgement.specs.Judge.{Verdict, Refused, Takes, turn_reasons, verdict_on}
use Rattle.judgement.specs.declared.event.Event.{Event}

-- from 06 on
unfoldable pub turn_of : Bus → Event → Verdict
turn_of bus event = verdict_on (first_of (turn_reasons bus event)) event

-- 06, or the kind's step
unfoldable pub ruled_of : ℕ → ℕ → Verdict
ruled_of kind phase = cond ((row_of kind).allows phase) (Takes (row_of kind).step) (Refused Refusal.wrong_phase)

-- ---- From 07 on

-- a verdict, unless a test of the code's refuses
abbrev pub verdict_after : Verdict → Result Unit Declared.Refusal → Verdict
verdict_after verdict (Ok passed) = verdict
verdict_after verdict (Err refusal) = Refused (number_of refusal)

-- 07, unless the speaker has its turn
abbrev pub in_turn : Bool → Verdict → Verdict
in_turn its verdict = cond (not its) (Refused Refusal.not_its_turn) verdict

-- 08, unless the lines are settled
abbrev pub on_settled : Bool → Verdict
on_settled settled = cond (not settled) (Refused Refusal.unsettled) (Takes Step.Acknowledge)

-- what is left of a cycle that is its speaker's
abbrev pub at_address : Bus → Event → Verdict
at_address bus event =
    cond (is_odd_word event) (Refused Refusal.odd_word) (cond (is_absent bus.pages event) (Refused Refusal.absent) (Takes Step.Cycle))

-- what a step of the granted card asks for
abbrev pub of_granted : Bus → Event → Step → Verdict
of_granted bus event step = in_turn (eqb event.speaker bus.granted) (Takes step)

-- what a step asks for once its phase is right
abbrev pub asked_of : Step → Bus → Event → Verdict
asked_of Step.Request bus event = Takes Step.Request
asked_of Step.Look bus event = in_turn (card_in bus.contenders event.speaker) (Takes Step.Look)
asked_of Step.Acknowledge bus event = on_settled (is_settled bus)
asked_of Step.BeginTransferOne bus event = of_granted bus event Step.BeginTransferOne
asked_of Step.TakeBus bus event = of_granted bus event Step.TakeBus
asked_of Step.Cycle bus event = in_turn (eqb event.speaker (master_of bus)) (at_address bus event)
asked_of Step.BeginTransferTwo bus event = of_granted bus event Step.BeginTransferTwo
asked_of Step.GiveBack bus event = of_granted bus event Step.GiveBack
asked_of Step.Reset bus event = Takes Step.Reset
