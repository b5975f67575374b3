-- What the code's result tells: of a refusal that it is refused, and of no two results the same.
use Prim.Native.Nat.{ℕ}
use mathlib.Core.Path.{◌≡◌, sym, ap, ◌∙◌}
use Rattle.std.specs.Prelude.{Ok, Err}
use Rattle.bus.specs.Told.{number_of}
use Rattle.bus.specs.declared.refusal.Refusal.{Refusal}
use Rattle.bus.specs.declared.state.Bus.{Bus}
use Rattle.bus.proofs.ToldLaws.{never_accepted, told_apart}
use Rattle.outcome.specs.Outcomes as Told
use Rattle.outcome.specs.Told.{outcome_in, OutcomesTold}
use Rattle.outcome.specs.declared.figures.Outcome.TheVariants.{Wins, Loses}
use Rattle.outcome.proofs.Refused.{refused}

pub told_refused : (bus : Bus) (card : ℕ) (refusal : Refusal) → number_of refusal ≡ Told.outcome_refusal bus card
    → outcome_in (Err refusal) ≡ Told.outcome_of bus card
told_refused bus card refusal number =
    ap Told.Refused number ∙ sym (refused bus card (λ none. never_accepted refusal (number ∙ none)))

pub outcomes_told : OutcomesTold
outcomes_told (Ok Wins) (Ok Wins) same = cc
outcomes_told (Ok Wins) (Ok (Loses other)) same = cc
outcomes_told (Ok Wins) (Err other) same = cc
outcomes_told (Ok (Loses one)) (Ok Wins) same = cc
outcomes_told (Ok (Loses one)) (Ok (Loses other)) same = cc
outcomes_told (Ok (Loses one)) (Err other) same = cc
outcomes_told (Err one) (Ok Wins) same = cc
outcomes_told (Err one) (Ok (Loses other)) same = cc
outcomes_told (Err one) (Err other) same = let alike : number_of one ≡ number_of other = cc in ap Err (told_apart one other alike)
