-- What the code's judgement tells, in 01's numbers.
use Rattle.std.specs.Prelude.{◌≡◌, Result, Ok, Err}
use Rattle.bus.specs.Told.{number_of}
use Rattle.bus.specs.declared.refusal.Refusal.{Refusal}
use Rattle.bus.specs.declared.step.Step.{Step}
use Rattle.judgement.specs.Judge.{Verdict, Refused, Takes}

-- the step to take, or the number of the refusal
abbrev pub verdict_in : Result Step Refusal → Verdict
verdict_in (Ok step) = Takes step
verdict_in (Err refusal) = Refused (number_of refusal)

-- no two results tell the same verdict
abbrev pub VerdictsApart : Type 0
VerdictsApart = (one other : Result Step Refusal) → verdict_in one ≡ verdict_in other → one ≡ other
