-- What a step leaves and answers, by the tests that the code makes in turn.
use mathlib.Core.Path.{◌≡◌, refl}
use mathlib.Core.Bool.{Bool, true, false, cond}
use Prim.Native.Nat.{ℕ}
use lib.Dec.{eqb}
use Rattle.words.specs.First.{first_of}
use Rattle.bus.specs.Refusal as Refusal
use Rattle.bus.specs.Sense.{is_senseless}
use Rattle.judgement.specs.Table.{row_of}
use Rattle.judgement.specs.Refusals.{has_wrong_buffers}
use Rattle.judgement.specs.Judge.{Verdict, Refused, Takes, sound_refusal, refusal_of, sound_verdict}
use Rattle.judgement.specs.declared.event.Event.{Event}
use Rattle.events.specs.Machine.{Machine}
use Rattle.events.specs.Answers.{refused_with}
use Rattle.events.specs.Step.{taken_by, answer_by, after, answer_to, sound_after, sound_answer}
use Rattle.events.specs.declared.answers.Answer.{Answer}

-- what a verdict leaves, and what is answered to it
abbrev pub after_verdict : Verdict → Machine → Event → Machine
after_verdict (Refused number) m event = m
after_verdict (Takes step) m event = taken_by step m event

abbrev pub answer_for : Verdict → Machine → Event → Answer
answer_for (Refused number) m event = refused_with number m.bus
answer_for (Takes step) m event = answer_by step m event

module _ (m : Machine) (event : Event) where
  pub sound_after_by : sound_after m event ≡ after_verdict (sound_verdict m.bus event) m event
  unfolding sound_after sound_verdict
  sound_after_by = go (eqb (sound_refusal m.bus event) 0)
    where
      go : (b : Bool) → cond b (taken_by (row_of event.kind).step m event) m
          ≡ after_verdict (cond b (Takes (row_of event.kind).step) (Refused (sound_refusal m.bus event))) m event
      go true = refl
      go false = refl

  pub sound_answer_by : sound_answer m event ≡ answer_for (sound_verdict m.bus event) m event
  unfolding sound_answer sound_verdict
  sound_answer_by = go (eqb (sound_refusal m.bus event) 0)
    where
      go : (b : Bool) → cond b (answer_by (row_of event.kind).step m event) (refused_with (sound_refusal m.bus event) m.bus)
          ≡ answer_for (cond b (Takes (row_of event.kind).step) (Refused (sound_refusal m.bus event))) m event
      go true = refl
      go false = refl

  -- 01 and 02 come before all else
  pub after_by : after m event ≡ cond (has_wrong_buffers m.memory m.ports) m (cond (is_senseless m.bus) m (sound_after m event))
  unfolding after sound_after refusal_of sound_refusal first_of
  after_by = go (has_wrong_buffers m.memory m.ports) (is_senseless m.bus)
    where
      go : (a b : Bool) → cond (eqb (cond a 1 (cond b 2 (sound_refusal m.bus event))) 0) (taken_by (row_of event.kind).step m event) m
          ≡ cond a m (cond b m (cond (eqb (sound_refusal m.bus event) 0) (taken_by (row_of event.kind).step m event) m))
      go true b = refl
      go false true = refl
      go false false = refl

  pub answer_to_by : answer_to m event
      ≡ cond (has_wrong_buffers m.memory m.ports) (refused_with Refusal.wrong_buffers m.bus)
      (cond (is_senseless m.bus) (refused_with Refusal.senseless m.bus) (sound_answer m event))
  unfolding answer_to sound_answer refusal_of sound_refusal first_of
  answer_to_by = go (has_wrong_buffers m.memory m.ports) (is_senseless m.bus)
    where
      answer_as : ℕ → Answer
      answer_as refusal = cond (eqb refusal 0) (answer_by (row_of event.kind).step m event) (refused_with refusal m.bus)

      go : (a b : Bool) → answer_as (cond a 1 (cond b 2 (sound_refusal m.bus event)))
          ≡ cond a (refused_with 1 m.bus) (cond b (refused_with 2 m.bus) (answer_as (sound_refusal m.bus event)))
      go true b = refl
      go false true = refl
      go false false = refl
