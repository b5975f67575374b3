-- No answer has the number of a wrong length: the refusals are small, and so are the bytes of an event's pictures.
use mathlib.Core.Path.{◌≡◌, refl, ◌∙◌}
use mathlib.Core.Logic.{⊎_elim}
use mathlib.Core.Bool.{Bool, true, false}
use mathlib.Core.List.{List}
use Prim.Native.Nat.{ℕ, ◌<◌}
use native.Mathlib.Omega.{arith}
use lib.Dec.{eqb, lit<}
use lib.ListN.{length}
use Rattle.words.proofs.TestLaws.{true_or_false}
use Rattle.words.proofs.FirstLaws.{first_below}
use Rattle.bus.specs.Refusal.{wrong_length}
use Rattle.bus.specs.Refusal as Refusal
use Rattle.bus.specs.Sense.{codes_known}
use Rattle.bus.specs.Setup.{setup_of}
use Rattle.bus.specs.Settle.{settle_reasons, settle_refusal, settle_of}
use Rattle.bus.specs.declared.state.Bus.{Bus}
use Rattle.bus.specs.declared.state.Chassis.{Chassis}
use Rattle.judgement.specs.Judge.{reasons_against, refusal_of}
use Rattle.judgement.specs.Table.{event_of}
use Rattle.judgement.specs.declared.event.Event.{Event}
use Rattle.events.specs.Machine.{Machine}
use Rattle.events.specs.Step.{refusal_in}
use Rattle.events.proofs.Refused.{answers_refusal}
use Rattle.outcome.specs.Outcomes.{outcome_reasons, outcome_refusal, figures_for}
use Rattle.outcome.proofs.Refused.{answer_is}
use Rattle.text.specs.Digits.{is_digits}
use Rattle.text.proofs.FaultLaws.{by_fault}
use Rattle.pins.specs.Picture.{picture_digits}
use Rattle.pins.specs.ReadAgain.{picture_in}
use Rattle.pins.proofs.DigitLaws.{pictures_fit}
use Rattle.s100_c.specs.Layout.{is_state, bus_in, answer_in}
use Rattle.s100_c.specs.Outcomes.{outcome_fits, outcome_answers}
use Rattle.s100_c.specs.Pictures.{pictures_for, picture_fits, is_seen}
use Rattle.s100_c.specs.Calls.{setup_fits, machine_in, places_fit}
use Rattle.s100_c.specs.Promises.{WrongLengthIsOwn}
use Rattle.s100_c.proofs.CallPromises.{setup_is_the_setup, step_is_the_step, settle_is_the_settle}

setup_small : (given : Chassis) → (setup_of given).answer < wrong_length
setup_small given = ⊎_elim (λ known. rw known (lit< tt)) (λ unknown. rw unknown (lit< tt)) (true_or_false (codes_known given))

refusal_small : (m : Machine) (event : Event) → refusal_in m event < wrong_length
unfolding refusal_of
refusal_small m event = first_below wrong_length (reasons_against m.memory m.ports m.bus event) (lit< tt) refl

settle_small : (bus : Bus) (cards : List ℕ) → (settle_of bus cards).answer < wrong_length
unfolding settle_of settle_refusal
settle_small bus cards =
    ⊎_elim
    (λ ok. rw ok (lit< tt))
    (λ refused. rw refused (first_below wrong_length (settle_reasons bus cards) (lit< tt) refl))
    (true_or_false (eqb (settle_refusal bus cards) Refusal.accepted))

read_small : (line : List ℕ) → (picture_in line).refusal < wrong_length
unfolding picture_in
read_small line =
    ⊎_elim
    (λ right. rw right (lit< tt))
    (λ bad.
    rw bad (by_fault picture_digits line (λ f. f.refusal < wrong_length) (λ right. lit< tt) (λ other. lit< tt) (λ size first. lit< tt)))
    (true_or_false (is_digits picture_digits line))

outcome_small : (bus : Bus) (card : ℕ) → (figures_for bus card).answer < wrong_length
unfolding outcome_refusal
outcome_small bus card = rw (answer_is bus card) (first_below wrong_length (outcome_reasons bus card) (lit< tt) refl)

-- so a number that is as large tells that a length was wrong
told : (fits : Bool) {r n : ℕ} → (fits ≡ true → r ≡ n) → n < wrong_length → r ≡ wrong_length → fits ≡ false
told true same low e = absurd (omega (arith, same refl, low, e))
told false same low e = refl

pub wrong_length_is_own : WrongLengthIsOwn
unfolding outcome_answers
wrong_length_is_own = (
  λ given state. told (setup_fits given state) (λ fits. (setup_is_the_setup given state fits).0) (setup_small given),
  (
    λ given event.
        told (places_fit given) (λ places. (step_is_the_step given event places).0 ∙ answers_refusal (machine_in given) event)
        (refusal_small (machine_in given) event),
    (
      λ state cards. told (is_state state) (λ fits. (settle_is_the_settle state cards 0 fits).0) (settle_small (bus_in state) cards),
      (
        λ kind address answer place.
            told (picture_fits answer place) {n = length (pictures_for kind address answer)} (λ fits. rw fits refl)
            (let most = pictures_fit (event_of kind 0 address 0) (answer_in answer) in omega (arith, most)),
        (
          λ line place. told (is_seen place) {n = (picture_in line).refusal} (λ fits. rw fits refl) (read_small line),
          λ state card place.
              told (outcome_fits state place) {n = (figures_for (bus_in state) card).answer} (λ fits. rw fits refl) (outcome_small (bus_in state) card),
        ),
      ),
    ),
  ),
)
