-- With buffers in order the memory doesn't matter to the bus, and without them nothing happens: so runs on a known bus can be computed for every
-- memory of the right length.
use Prim.Native.Nat.{ℕ}
use mathlib.Core.Path.{◌≡◌, refl, ap, ap₂, ◌∙◌}
use mathlib.Core.Bool.{Bool, true, false, not, cond}
use mathlib.Core.List.{List, [], ◌∷◌}
use lib.Dec.{eqb}
use Rattle.words.specs.First.{first_of}
use Rattle.bus.specs.Sense.{makes_sense}
use Rattle.bus.specs.declared.state.Bus.{Bus}
use Rattle.judgement.specs.Table.{row_of}
use Rattle.judgement.specs.Judge.{sound_refusal, refusal_of}
use Rattle.judgement.specs.declared.event.Event.{Event}
use Rattle.judgement.proofs.Passed.{sound_call}
use Rattle.events.specs.Machine.{Machine}
use Rattle.events.specs.Step.{bus_by, taken_by, after_as, after}
use Rattle.events.proofs.Stays.{sense_kept_by_events}
use Rattle.runs.specs.Run.{refusal_on, bus_after, machine_for, after_all, accepted_of}
use Rattle.runs.specs.Promises.{Right}
use Rattle.runs.specs.Examples.{call_with, over, refusals_of}

-- ---- The same run, of the bus alone

abbrev pub refusal_for : Bus → Bool × Event → ℕ
refusal_for bus x = cond x.0 (sound_refusal bus x.1) 1

abbrev pub bus_step : Bus → Bool × Event → Bus
bus_step bus x = cond (eqb (refusal_for bus x) 0) (bus_by (row_of x.1.kind).step bus x.1) bus

unfoldable pub bus_run : Bus → List (Bool × Event) → Bus
bus_run bus [] = bus
bus_run bus (x ∷ xs) = bus_run (bus_step bus x) xs

unfoldable pub accepted_on : Bus → List (Bool × Event) → List Event
accepted_on bus [] = []
accepted_on bus (x ∷ xs) = cond (eqb (refusal_for bus x) 0) (x.1 ∷ accepted_on (bus_step bus x) xs) (accepted_on (bus_step bus x) xs)

unfoldable pub refusals_for : Bus → List (Bool × Event) → List ℕ
refusals_for bus [] = []
refusals_for bus (x ∷ xs) = refusal_for bus x ∷ refusals_for (bus_step bus x) xs

module _ (memory ports : List ℕ) (right : Right memory ports) where
  -- ---- One call

  pub refusal_for_holds : (bus : Bus) → makes_sense bus ≡ true → (x : Bool × Event) → refusal_on bus (call_with memory ports x) ≡ refusal_for bus x
  unfolding refusal_of first_of
  refusal_for_holds bus sense (true, event) = sound_call bus event memory ports right (ap not sense)
  refusal_for_holds bus sense (false, event) = refl

  pub step_for : (bus : Bus) → makes_sense bus ≡ true → (x : Bool × Event) → bus_after bus (call_with memory ports x) ≡ bus_step bus x
  unfolding after
  step_for bus sense x =
      ap (λ (r : ℕ). (after_as r (machine_for bus (call_with memory ports x)) x.1).bus) (refusal_for_holds bus sense x) ∙ go (eqb (refusal_for bus x) 0)
    where
      m : Machine
      m = machine_for bus (call_with memory ports x)

      go : (b : Bool) → (cond b (taken_by (row_of x.1.kind).step m x.1) m).bus
          ≡ cond b (bus_by (row_of x.1.kind).step bus x.1) bus
      go true = refl
      go false = refl

  keeps : (bus : Bus) → makes_sense bus ≡ true → (x : Bool × Event) → makes_sense (bus_after bus (call_with memory ports x)) ≡ true
  keeps bus sense x = sense_kept_by_events (machine_for bus (call_with memory ports x)) x.1 sense

  -- ---- Many

  pub run_of_the_bus : (xs : List (Bool × Event)) (bus : Bus) → makes_sense bus ≡ true → after_all bus (over memory ports xs) ≡ bus_run bus xs
  unfolding after_all bus_run over
  run_of_the_bus [] bus sense = refl
  run_of_the_bus (x ∷ xs) bus sense =
      run_of_the_bus xs (bus_after bus (call_with memory ports x)) (keeps bus sense x) ∙ ap (λ (b : Bus). bus_run b xs) (step_for bus sense x)

  pub accepted_on_the_bus : (xs : List (Bool × Event)) (bus : Bus) → makes_sense bus ≡ true → accepted_of bus (over memory ports xs) ≡ accepted_on bus xs
  unfolding accepted_of accepted_on over
  accepted_on_the_bus [] bus sense = refl
  accepted_on_the_bus (x ∷ xs) bus sense =
      rw (refusal_for_holds bus sense x)
      (ap (λ (rest : List Event). cond (eqb (refusal_for bus x) 0) (x.1 ∷ rest) rest)
      (accepted_on_the_bus xs (bus_after bus (call_with memory ports x)) (keeps bus sense x) ∙ ap (λ (b : Bus). accepted_on b xs) (step_for bus sense x)))

  pub refusals_on_the_bus : (xs : List (Bool × Event)) (bus : Bus) → makes_sense bus ≡ true → refusals_of bus (over memory ports xs) ≡ refusals_for bus xs
  unfolding refusals_of refusals_for over
  refusals_on_the_bus [] bus sense = refl
  refusals_on_the_bus (x ∷ xs) bus sense =
      ap₂ ◌∷◌ (refusal_for_holds bus sense x)
      (refusals_on_the_bus xs (bus_after bus (call_with memory ports x)) (keeps bus sense x) ∙ ap (λ (b : Bus). refusals_for b xs) (step_for bus sense x))
