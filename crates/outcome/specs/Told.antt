-- What the code's result tells: the outcome, a refusal by its number.
use Rattle.std.specs.Prelude.{◌≡◌, Result, Ok, Err}
use Rattle.bus.specs.Told.{number_of}
use Rattle.bus.specs.declared.refusal.Refusal.{Refusal}
use Rattle.outcome.specs.Outcomes as Told
use Rattle.outcome.specs.declared.figures.Outcome.{Outcome}
use Rattle.outcome.specs.declared.figures.Outcome.TheVariants.{Wins, Loses}

abbrev pub outcome_in : Result Outcome Refusal → Told.Outcome
outcome_in (Ok Wins) = Told.Wins
outcome_in (Ok (Loses lost)) = Told.Loses lost
outcome_in (Err refusal) = Told.Refused (number_of refusal)

-- no two results tell the same
abbrev pub OutcomesTold : Type 0
OutcomesTold = (one other : Result Outcome Refusal) → outcome_in one ≡ outcome_in other → one ≡ other
