-- Setup, and a request in transfer two.
use Prim.Native.Nat.{ℕ}
use mathlib.Core.Path.{◌≡◌, refl, ap, ◌∙◌}
use mathlib.Core.Logic.{◌⊎◌, inl, inr, ⊎_elim}
use mathlib.Core.Bool.{true, false}
use native.Mathlib.Omega.{arith}
use lib.Dec.{eqb}
use Rattle.std.specs.Prelude.{Err}
use Rattle.words.proofs.TestLaws.{true_or_false}
use Rattle.words.specs.Below.{all_below}
use Rattle.words.specs.Among.{every_listed, beside}
use Rattle.phases.specs.Phase as Phase
use Rattle.phases.specs.Signal.{HOLD, pHLDA, is_on, signals_in}
use Rattle.bus.specs.Sense.{codes_known, chassis_fits, makes_sense}
use Rattle.bus.specs.State.{empty_chassis, free_bus}
use Rattle.bus.specs.Setup.{SetupAnswer, empty_bus, setup_of}
use Rattle.bus.specs.Told.{set_up}
use Rattle.bus.specs.Promises.{SetupRefuses, SetupAccepts, FreeBusBegins, SetupMakesSense, HoldFalseIsNotFree}
use Rattle.bus.specs.declared.refusal.Refused.{Refused}
use Rattle.bus.specs.declared.state.Bus.{Bus}
use Rattle.bus.specs.declared.state.Chassis.{Chassis}
use Rattle.bus.proofs.SenseLaws.{codes_at, codes_of, array_fits, chassis_means, sense_means}
use Rattle.bus.proofs.Kept.{free_sense}
use Rattle.bus.proofs.ToldLaws.{never_accepted}

empty_fits : chassis_fits empty_chassis ≡ true
unfolding every_listed all_below
empty_fits = refl

pub setup_refuses : SetupRefuses
setup_refuses chassis p h above = rw unknown (refl, refl)
  where
    unknown : codes_known chassis ≡ false
    unknown =
        ⊎_elim (λ known. let low = codes_at chassis.pages known p h in absurd (omega (arith, low, above))) (λ f. f)
        (true_or_false (codes_known chassis))

pub setup_accepts : SetupAccepts
setup_accepts chassis each = rw (codes_of chassis.pages each) (refl, refl)

-- a setup that is refused hands back no other bus than that of an empty chassis
pub refused_empty : (chassis : Chassis) (refused : Refused Bus) → set_up (Err refused) ≡ setup_of chassis → refused.left ≡ empty_bus
refused_empty chassis refused is = go (true_or_false (codes_known chassis))
  where
    go : (codes_known chassis ≡ true) ⊎ (codes_known chassis ≡ false) → refused.left ≡ empty_bus
    go (inl t) = absurd (never_accepted refused.refusal (ap (λ (s : SetupAnswer). s.answer) is ∙ rw t refl))
    go (inr f) = ap (λ (s : SetupAnswer). s.bus) is ∙ rw f refl

pub free_bus_begins : FreeBusBegins
free_bus_begins chassis = record {
  fitted = refl;
  pages = refl;
  phase = refl;
  contenders = refl;
  driven = refl;
  granted = refl;
}

pub setup_makes_sense : SetupMakesSense
setup_makes_sense chassis size = go (true_or_false (codes_known chassis))
  where
    fits : (other : Chassis) → chassis_fits other ≡ true → makes_sense (free_bus other) ≡ true
    fits other e = (sense_means (free_bus other)).1 (free_sense other ((chassis_means other).0 e))

    go : (codes_known chassis ≡ true) ⊎ (codes_known chassis ≡ false) → makes_sense (setup_of chassis).bus ≡ true
    go (inl t) = rw t (fits chassis (array_fits chassis size ∙ t))
    go (inr f) = rw f (fits empty_chassis empty_fits)

-- ---- HOLD false, and the bus not free

pub hold_false_is_not_free : HoldFalseIsNotFree
unfolding beside signals_in
hold_false_is_not_free bus e = (
  ap (λ (p : ℕ). is_on HOLD (signals_in p)) e,
  ap (λ (p : ℕ). is_on pHLDA (signals_in p)) e,
  λ cards. let busy : eqb bus.phase Phase.free ≡ false = ap (λ (p : ℕ). eqb p Phase.free) e in rw busy,
)
