-- The code's names for the phases, with 01's numbers.
use Rattle.std.specs.Prelude.{ℕ, ◌<◌, ◌≡◌, Result, Ok, Err, MatchResult, [], ◌∷◌}
use Rattle.words.specs.Among.{beside}
use Rattle.phases.specs.Phase as Number
use Rattle.phases.specs.declared.phases.Phase.{Phase}
use Rattle.phases.specs.declared.phases.UnknownPhase.{UnknownPhase}

abbrev pub number_of_phase : Phase → ℕ
number_of_phase Phase.Free = Number.free
number_of_phase Phase.Arbitration = Number.arbitration
number_of_phase Phase.Granted = Number.granted
number_of_phase Phase.TransferOne = Number.transfer_one
number_of_phase Phase.Owned = Number.owned
number_of_phase Phase.TransferTwo = Number.transfer_two

-- the phase with this number, or an error with a number that none has
unfoldable pub phase_of : ℕ → Result Phase UnknownPhase
phase_of number =
    beside number (
    (Number.free, Ok Phase.Free) ∷ (Number.arbitration, Ok Phase.Arbitration) ∷ (Number.granted, Ok Phase.Granted)
    ∷ (Number.transfer_one, Ok Phase.TransferOne) ∷ (Number.owned, Ok Phase.Owned) ∷ (Number.transfer_two, Ok Phase.TransferTwo) ∷ []
    ) (Err (record { 0 = number }))

-- the result has this number, or is an error with a number that no phase has
abbrev pub Known : ℕ → Result Phase UnknownPhase → Type 0
Known number r = MatchResult r (λ phase. number_of_phase phase ≡ number) (λ unknown. (unknown.0 ≡ number) × (Number.last < number))
