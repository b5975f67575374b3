-- What the code's results tell is theirs alone: two results that tell the same are the same.
use Prim.Native.Nat.{ℕ}
use mathlib.Core.Path.{◌≡◌, refl, sym, ap, ap₂, ◌∙◌}
use Rattle.std.specs.Prelude.{Option, Some, None, Result, Ok, Err, [], ◌∷◌, get_or}
use Rattle.bus.specs.Refusal as Number
use Rattle.bus.specs.Setup.{SetupAnswer}
use Rattle.bus.specs.Settle.{Settlement}
use Rattle.bus.specs.Told.{number_of, RefusalsTold, set_up, settlement, SetupsApart, SettlementsApart}
use Rattle.bus.specs.declared.refusal.Refusal.{Refusal}
use Rattle.bus.specs.declared.refusal.Refused.{Refused}
use Rattle.bus.specs.declared.settle.Settled.{Settled}
use Rattle.bus.specs.declared.state.Bus.{Bus}

-- the refusal of a number: 0 is none's, and those above 0D are one's
abbrev refusal_of : ℕ → Option Refusal
refusal_of n =
    get_or
    (None
    ∷ Some Refusal.WrongBuffers
    ∷ Some Refusal.Senseless
    ∷ Some Refusal.Malformed
    ∷ Some Refusal.NobodyNamed
    ∷ Some Refusal.NotFitted
    ∷ Some Refusal.WrongPhase
    ∷ Some Refusal.NotItsTurn
    ∷ Some Refusal.Unsettled
    ∷ Some Refusal.OddWord
    ∷ Some Refusal.Absent
    ∷ Some Refusal.BadPage
    ∷ Some Refusal.WrongLineLength
    ∷ Some Refusal.WrongCharacter
    ∷ [])
    n (Some Refusal.WrongLength)

of_its_number : (refusal : Refusal) → Some refusal ≡ refusal_of (number_of refusal)
of_its_number Refusal.WrongBuffers = refl
of_its_number Refusal.Senseless = refl
of_its_number Refusal.Malformed = refl
of_its_number Refusal.NobodyNamed = refl
of_its_number Refusal.NotFitted = refl
of_its_number Refusal.WrongPhase = refl
of_its_number Refusal.NotItsTurn = refl
of_its_number Refusal.Unsettled = refl
of_its_number Refusal.OddWord = refl
of_its_number Refusal.Absent = refl
of_its_number Refusal.BadPage = refl
of_its_number Refusal.WrongLineLength = refl
of_its_number Refusal.WrongCharacter = refl
of_its_number Refusal.WrongLength = refl

pub never_accepted : (refusal : Refusal) → number_of refusal ≡ Number.accepted → ⊥
never_accepted refusal e = let none : Some refusal ≡ None = of_its_number refusal ∙ ap refusal_of e in cc

pub told_apart : (one other : Refusal) → number_of one ≡ number_of other → one ≡ other
told_apart one other e = let same : Some one ≡ Some other = of_its_number one ∙ ap refusal_of e ∙ sym (of_its_number other) in cc

pub refusals_told : RefusalsTold
refusals_told = (never_accepted, told_apart)

-- ---- Results

abbrev refused_leaving : {A : Type 0} → Refusal → A → Result A (Refused A)
refused_leaving refusal left = Err (record { refusal = refusal; left = left })

abbrev settled_with : Bus → ℕ → Settled
settled_with bus looks = record { bus = bus; looks = looks }

pub setups_apart : SetupsApart
setups_apart one other e = go one other (ap (λ (s : SetupAnswer). s.answer) e) (ap (λ (s : SetupAnswer). s.bus) e)
  where
    go : (one other : Result Bus (Refused Bus)) → (set_up one).answer ≡ (set_up other).answer → (set_up one).bus ≡ (set_up other).bus → one ≡ other
    go (Ok bus) (Ok other) answer left = ap Ok left
    go (Err refused) (Err other) answer left = ap₂ refused_leaving (told_apart refused.refusal other.refusal answer) left
    go (Ok bus) (Err refused) answer left = absurd (never_accepted refused.refusal (sym answer))
    go (Err refused) (Ok bus) answer left = absurd (never_accepted refused.refusal answer)

pub settlements_apart : SettlementsApart
settlements_apart one other e =
    go one other (ap (λ (s : Settlement). s.answer) e)
    (ap₂ settled_with (ap (λ (s : Settlement). s.bus) e) (ap (λ (s : Settlement). s.looks) e))
  where
    left_by : Result Settled (Refused Settled) → Settled
    left_by told = settled_with (settlement told).bus (settlement told).looks

    go : (one other : Result Settled (Refused Settled)) → (settlement one).answer ≡ (settlement other).answer → left_by one ≡ left_by other → one ≡ other
    go (Ok settled) (Ok other) answer left = ap Ok left
    go (Err refused) (Err other) answer left = ap₂ refused_leaving (told_apart refused.refusal other.refusal answer) left
    go (Ok settled) (Err refused) answer left = absurd (never_accepted refused.refusal (sym answer))
    go (Err refused) (Ok settled) answer left = absurd (never_accepted refused.refusal answer)
