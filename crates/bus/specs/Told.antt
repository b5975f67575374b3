-- What the code's results tell, in 01's numbers: each refusal has one, and what isn't refused is answered by 0.
use Rattle.std.specs.Prelude.{ℕ, ◌≡◌, Result, Ok, Err}
use Rattle.bus.specs.Refusal as Number
use Rattle.bus.specs.Setup.{SetupAnswer}
use Rattle.bus.specs.Settle.{Settlement}
use Rattle.bus.specs.declared.refusal.Refusal.{Refusal}
use Rattle.bus.specs.declared.refusal.Refused.{Refused}
use Rattle.bus.specs.declared.settle.Settled.{Settled}
use Rattle.bus.specs.declared.state.Bus.{Bus}

abbrev pub number_of : Refusal → ℕ
number_of Refusal.WrongBuffers = Number.wrong_buffers
number_of Refusal.Senseless = Number.senseless
number_of Refusal.Malformed = Number.malformed
number_of Refusal.NobodyNamed = Number.nobody_named
number_of Refusal.NotFitted = Number.not_fitted
number_of Refusal.WrongPhase = Number.wrong_phase
number_of Refusal.NotItsTurn = Number.not_its_turn
number_of Refusal.Unsettled = Number.unsettled
number_of Refusal.OddWord = Number.odd_word
number_of Refusal.Absent = Number.absent
number_of Refusal.BadPage = Number.bad_page
number_of Refusal.WrongLineLength = Number.wrong_line_length
number_of Refusal.WrongCharacter = Number.wrong_character
number_of Refusal.WrongLength = Number.wrong_length

-- no refusal has the number of what isn't refused, nor another one's
abbrev pub RefusalsTold : Type 0
RefusalsTold =
    ((refusal : Refusal) → number_of refusal ≡ Number.accepted → ⊥) × ((one other : Refusal) → number_of one ≡ number_of other → one ≡ other)

-- the number that a result is answered by, whatever it tells besides
abbrev pub answered : {A : Type 0} → Result A Refusal → ℕ
answered (Ok told) = Number.accepted
answered (Err refusal) = number_of refusal

-- the bus comes with a refusal too
abbrev pub set_up : Result Bus (Refused Bus) → SetupAnswer
set_up (Ok bus) = record { answer = Number.accepted; bus = bus }
set_up (Err refused) = record { answer = number_of refused.refusal; bus = refused.left }

-- and so do the state and the count
abbrev pub settlement : Result Settled (Refused Settled) → Settlement
settlement (Ok settled) = record { answer = Number.accepted; bus = settled.bus; looks = settled.looks }
settlement (Err refused) = record { answer = number_of refused.refusal; bus = refused.left.bus; looks = refused.left.looks }

-- no two results tell the same
abbrev pub SetupsApart : Type 0
SetupsApart = (one other : Result Bus (Refused Bus)) → set_up one ≡ set_up other → one ≡ other

abbrev pub SettlementsApart : Type 0
SettlementsApart = (one other : Result Settled (Refused Settled)) → settlement one ≡ settlement other → one ≡ other
