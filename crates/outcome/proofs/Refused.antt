-- When the outcome is refused, and as what.
use Prim.Native.Nat.{ℕ, ◌<◌, ◌≤◌}
use mathlib.Core.Path.{◌≡◌, refl, sym, ◌∙◌}
use mathlib.Core.Logic.{◌⊎◌, inl, inr, ⊎_elim}
use mathlib.Core.Bool.{Bool, true, false, cond, not, ◌&&◌, ◌||◌, and-eq-true_iff, true≢false}
use mathlib.Core.List.{[], ◌∷◌}
use native.Mathlib.Nat.{le_of_suc-le-suc}
use native.Mathlib.Decide.{dec_lt}
use native.Mathlib.Omega.{arith}
use lib.Dec.{eqb, leb, ltb, lit<}
use borrow.Author.Tests.{eqb-true, eqb-false, eq-eqb, ne_eqb, ltb-true, ltb-false, lt-ltb, le-ltb, le-leb, lt-leb, not-true, not-false}
use Rattle.words.specs.Below.{all_below}
use Rattle.words.specs.Among.{is_among, every_listed}
use Rattle.words.specs.First.{first_of, applies_as, ascends_from}
use Rattle.words.proofs.TestLaws.{true_or_false}
use Rattle.words.proofs.FirstLaws.{first_none, first_by_number}
use Rattle.cards.specs.Cards.{card_in}
use Rattle.cards.proofs.CardLaws.{card_below}
use Rattle.phases.specs.Phase as Phase
use Rattle.bus.specs.Refusal as Refusal
use Rattle.bus.specs.State.{lines_of, is_settled}
use Rattle.bus.specs.Sense.{makes_sense, is_senseless}
use Rattle.bus.specs.Promises.{Sensible}
use Rattle.bus.specs.Steps.{after_looks_of}
use Rattle.bus.specs.Settle.{
  settled_after,
  never_settles,
  lists_no_card,
  lists_unfitted,
  is_elsewhere,
  lists_idle,
  list_refusal,
  settle_refusal,
  settle_of,
}
use Rattle.bus.specs.declared.state.Bus.{Bus}
use Rattle.bus.proofs.SenseLaws.{sense_means}
use Rattle.bus.proofs.SettleAnswers.{answers, list_in_order}
use Rattle.outcome.specs.Losing.{no_line, line_lost}
use Rattle.outcome.specs.Outcomes.{outcome_reasons, outcome_refusal, decided_at, settled_outcome, outcome_of, figures_of, figures_for, Refused}
use Rattle.outcome.specs.Promises.{Asked, OutcomeByNumber, OutcomeRefused, AnsweredIfAsked, RefusedAsInSettle, RefusedTellsNothing}

module _ (bus : Bus) (card : ℕ) where
  -- ---- The two ways to answer

  pub decided : outcome_refusal bus card ≡ Refusal.accepted → outcome_of bus card ≡ settled_outcome bus card
  unfolding outcome_of
  decided none = rw (eq-eqb _ _ none)

  pub refused : (outcome_refusal bus card ≡ Refusal.accepted → ⊥) → outcome_of bus card ≡ Refused (outcome_refusal bus card)
  unfolding outcome_of
  refused some = rw (ne_eqb _ _ some)

  -- whichever line decides it, that is no refusal
  accepted_at : (line : ℕ) → (figures_of card (decided_at bus line)).answer ≡ Refusal.accepted
  accepted_at line = go (eqb line no_line) refl
    where
      go : (b : Bool) → eqb line no_line ≡ b → (figures_of card (decided_at bus line)).answer ≡ Refusal.accepted
      go true e = rw e
      go false e = rw e

  pub answer_is : (figures_for bus card).answer ≡ outcome_refusal bus card
  unfolding settled_outcome
  answer_is = go (true_or_false (eqb (outcome_refusal bus card) Refusal.accepted))
    where
      go : (eqb (outcome_refusal bus card) Refusal.accepted ≡ true) ⊎ (eqb (outcome_refusal bus card) Refusal.accepted ≡ false)
          → (figures_for bus card).answer ≡ outcome_refusal bus card
      go (inl t) = rw (decided (eqb-true _ _ t)) (accepted_at (line_lost card (lines_of bus)) ∙ sym (eqb-true _ _ t))
      go (inr f) = rw (refused (eqb-false _ _ f))

  -- ---- What is so where nothing is refused

  pub asked_of : outcome_refusal bus card ≡ Refusal.accepted → Asked bus card
  unfolding outcome_refusal
  asked_of none =
      let sense = first_none _ _ refl none in
      let number = first_none _ _ refl sense.1 in
      let fitted = first_none _ _ refl number.1 in
      let phase = first_none _ _ refl fitted.1 in
      let turn = first_none _ _ refl phase.1 in
      let settled = first_none _ _ refl turn.1 in
      let low : card ≤ 15 = ltb-false 15 card number.0 in record {
        sense = (sense_means bus).0 (not-false _ sense.0);
        number = low;
        fitted = not-false _ (rw (le-leb card 15 low) at fitted.0);
        phase = eqb-true _ _ (not-false _ phase.0);
        contends = not-false _ turn.0;
        settled = not-false _ settled.0;
      }

  pub of_asked : Asked bus card → outcome_refusal bus card ≡ Refusal.accepted
  unfolding outcome_refusal first_of
  of_asked asked =
      rw (
        (sense_means bus).1 asked.sense,
        le-ltb 15 card asked.number,
        le-leb card 15 asked.number,
        asked.fitted,
        eq-eqb _ _ asked.phase,
        asked.contends,
        asked.settled,
      )

-- ---- The promises

pub outcome_by_number : OutcomeByNumber
unfolding outcome_refusal ascends_from
outcome_by_number bus card n some =
    let lowest = first_by_number (outcome_reasons bus card) refl n some in
    (λ e. lowest.0 (sym (answer_is bus card) ∙ e), λ low. answer_is bus card ∙ lowest.1 low)

pub answered_if_asked : AnsweredIfAsked
answered_if_asked bus card =
    (λ e. asked_of bus card (sym (answer_is bus card) ∙ e), λ asked. answer_is bus card ∙ of_asked bus card asked)

pub refused_tells_nothing : RefusedTellsNothing
refused_tells_nothing bus card n some e =
    let number : outcome_refusal bus card ≡ n = sym (answer_is bus card) ∙ e in
    rw (refused bus card (λ none. some (sym number ∙ none)), number)

-- ---- Each number in plain words

alone : (b : Bool) {known : Bool} → (b || false) ≡ known → b ≡ known
alone true e = e
alone false e = e

module _ (bus : Bus) (card : ℕ) where
  -- the third reason
  abbrev unfitted : Bool
  unfitted = leb card 15 && not (card_in bus.fitted card)

  -- a number that is given applies, and a lower one doesn't
  given : (n : ℕ) → 0 < n → (figures_for bus card).answer ≡ n → applies_as n (outcome_reasons bus card) ≡ true
  given n some e = ((outcome_by_number bus card n some).0 e).0

  passed : (n : ℕ) → 0 < n → (figures_for bus card).answer ≡ n → (k : ℕ) → k < n → applies_as k (outcome_reasons bus card) ≡ false
  passed n some e k h = ((outcome_by_number bus card n some).0 e).1 k h

  -- past 02 the state makes sense, past 05 the card is fitted, past 06 the cards arbitrate, past 07 it contends
  past_sense : (n : ℕ) → 2 < n → (figures_for bus card).answer ≡ n → Sensible bus
  unfolding applies_as
  past_sense n h e = (sense_means bus).0 (not-false _ (alone _ (passed n (omega (arith, h)) e 2 h)))

  past_number : (n : ℕ) → 3 < n → (figures_for bus card).answer ≡ n → card ≤ 15
  unfolding applies_as
  past_number n h e = ltb-false 15 card (alone _ (passed n (omega (arith, h)) e 3 h))

  past_fitted : (n : ℕ) → 5 < n → (figures_for bus card).answer ≡ n → card_in bus.fitted card ≡ true
  unfolding applies_as
  past_fitted n h e =
      let low = le-leb card 15 (past_number n (omega (arith, h)) e) in
      not-false _ (rw low at (alone unfitted (passed n (omega (arith, h)) e 5 h)))

  past_phase : (n : ℕ) → 6 < n → (figures_for bus card).answer ≡ n → bus.phase ≡ 1
  unfolding applies_as
  past_phase n h e = eqb-true _ _ (not-false _ (alone _ (passed n (omega (arith, h)) e 6 h)))

  past_turn : (n : ℕ) → 7 < n → (figures_for bus card).answer ≡ n → card_in bus.contenders card ≡ true
  unfolding applies_as
  past_turn n h e = not-false _ (alone _ (passed n (omega (arith, h)) e 7 h))

  -- and what applies where one of them is given
  is_two : (figures_for bus card).answer ≡ 2 → makes_sense bus ≡ false
  unfolding applies_as
  is_two e = not-true _ (alone _ (given 2 (lit< tt) e))

  is_three : (figures_for bus card).answer ≡ 3 → 15 < card
  unfolding applies_as
  is_three e = ltb-true 15 card (alone _ (given 3 (lit< tt) e))

  is_five : (figures_for bus card).answer ≡ 5 → card_in bus.fitted card ≡ false
  unfolding applies_as
  is_five e = not-true _ ((and-eq-true_iff (leb card 15) (not (card_in bus.fitted card))).0 (alone unfitted (given 5 (lit< tt) e))).1

  is_six : (figures_for bus card).answer ≡ 6 → bus.phase ≡ 1 → ⊥
  unfolding applies_as
  is_six e = eqb-false _ _ (not-true _ (alone _ (given 6 (lit< tt) e)))

  is_seven : (figures_for bus card).answer ≡ 7 → card_in bus.contenders card ≡ false
  unfolding applies_as
  is_seven e = not-true _ (alone _ (given 7 (lit< tt) e))

  is_eight : (figures_for bus card).answer ≡ 8 → is_settled bus ≡ false
  unfolding applies_as
  is_eight e = not-true _ (alone _ (given 8 (lit< tt) e))

  -- ---- And the other way

  senseless : (Sensible bus → ⊥) → makes_sense bus ≡ false
  senseless none = ⊎_elim (λ sense. absurd (none ((sense_means bus).0 sense))) (λ not. not) (true_or_false (makes_sense bus))

  fitted_low : card_in bus.fitted card ≡ true → card ≤ 15
  fitted_low fits = le_of_suc-le-suc (card_below bus.fitted card fits)

  gives_two : makes_sense bus ≡ false → outcome_refusal bus card ≡ 2
  unfolding outcome_refusal first_of
  gives_two none = rw none refl

  gives_three : Sensible bus → 15 < card → outcome_refusal bus card ≡ 3
  unfolding outcome_refusal first_of
  gives_three sense high = rw ((sense_means bus).1 sense, lt-ltb 15 card high) refl

  gives_five : Sensible bus → card ≤ 15 → card_in bus.fitted card ≡ false → outcome_refusal bus card ≡ 5
  unfolding outcome_refusal first_of
  gives_five sense low out = rw ((sense_means bus).1 sense, le-ltb 15 card low, le-leb card 15 low, out) refl

  gives_six : Sensible bus → card_in bus.fitted card ≡ true → (bus.phase ≡ 1 → ⊥) → outcome_refusal bus card ≡ 6
  unfolding outcome_refusal first_of
  gives_six sense fits other =
      rw ((sense_means bus).1 sense, le-ltb 15 card (fitted_low fits), le-leb card 15 (fitted_low fits), fits, ne_eqb _ _ other) refl

  gives_seven : Sensible bus → card_in bus.fitted card ≡ true → bus.phase ≡ 1 → card_in bus.contenders card ≡ false → outcome_refusal bus card ≡ 7
  unfolding outcome_refusal first_of
  gives_seven sense fits phase idle =
      rw ((sense_means bus).1 sense, le-ltb 15 card (fitted_low fits), le-leb card 15 (fitted_low fits), fits, eq-eqb _ _ phase, idle) refl

  gives_eight : Sensible bus → bus.phase ≡ 1 → card_in bus.contenders card ≡ true → is_settled bus ≡ false → outcome_refusal bus card ≡ 8
  unfolding outcome_refusal first_of
  gives_eight sense phase contends moving =
      let fits = sense.contention.contenders_fitted card contends in
      rw ((sense_means bus).1 sense, le-ltb 15 card (fitted_low fits), le-leb card 15 (fitted_low fits), fits, eq-eqb _ _ phase, contends, moving) refl

  -- ---- No other number

  one_of : (a b c d e f : Bool)
      → is_among
      (cond a 2 (cond b 3 (cond c 5 (cond d 6 (cond e 7 (cond f 8 0))))))
      (0 ∷ 2 ∷ 3 ∷ 5 ∷ 6 ∷ 7 ∷ 8 ∷ [])
      ≡ true
  unfolding is_among
  one_of true b c d e f = refl
  one_of false true c d e f = refl
  one_of false false true d e f = refl
  one_of false false false true e f = refl
  one_of false false false false true f = refl
  one_of false false false false false true = refl
  one_of false false false false false false = refl

  known_number : is_among (outcome_refusal bus card) (0 ∷ 2 ∷ 3 ∷ 5 ∷ 6 ∷ 7 ∷ 8 ∷ []) ≡ true
  unfolding outcome_refusal first_of
  known_number =
      one_of (is_senseless bus) (ltb 15 card) unfitted (is_elsewhere bus) (not (card_in bus.contenders card)) (not (is_settled bus))

pub outcome_refused : OutcomeRefused
outcome_refused bus card =
    let is = answer_is bus card in (
      record {
        senseless = (
          λ e sense. true≢false (sym ((sense_means bus).1 sense) ∙ is_two bus card e),
          λ none. is ∙ gives_two bus card (senseless bus card none),
        );
        no_card = (λ e. (past_sense bus card 3 (lit< tt) e, is_three bus card e), λ so. is ∙ gives_three bus card so.0 so.1);
        not_fitted = (
          λ e. (past_sense bus card 5 (lit< tt) e, (past_number bus card 5 (lit< tt) e, is_five bus card e)),
          λ so. is ∙ gives_five bus card so.0 so.1.0 so.1.1,
        );
        elsewhere = (
          λ e. (past_sense bus card 6 (lit< tt) e, (past_fitted bus card 6 (lit< tt) e, is_six bus card e)),
          λ so. is ∙ gives_six bus card so.0 so.1.0 so.1.1,
        );
        idle = (
          λ e. (past_sense bus card 7 (lit< tt) e, (past_fitted bus card 7 (lit< tt) e, (past_phase bus card 7 (lit< tt) e, is_seven bus card e))),
          λ so. is ∙ gives_seven bus card so.0 so.1.0 so.1.1.0 so.1.1.1,
        );
        unsettled = (
          λ e. (past_sense bus card 8 (lit< tt) e, (past_phase bus card 8 (lit< tt) e, (past_turn bus card 8 (lit< tt) e, is_eight bus card e))),
          λ so. is ∙ gives_eight bus card so.0 so.1.0 so.1.1.0 so.1.1.1,
        );
      },
      rw is (known_number bus card),
    )

-- ---- As in settle

-- the reasons against state and card, those of a list with this card alone
abbrev of_card : Bool → Bool → Bool → Bool → Bool → ℕ → ℕ
of_card senseless high unfitted elsewhere idle behind =
    cond senseless Refusal.senseless (cond high Refusal.malformed (cond unfitted Refusal.not_fitted (
    cond elsewhere Refusal.wrong_phase (cond idle Refusal.not_its_turn behind))))

-- a card above 15 is malformed, and what else is asked of it makes no difference
same_reasons : (senseless elsewhere fits contends : Bool) (card behind : ℕ)
    → of_card senseless (not (true && leb card 15)) (not (true && (ltb 15 card || fits))) elsewhere (not (true && (ltb 15 card || contends))) behind
    ≡ of_card senseless (ltb 15 card) (leb card 15 && not fits) elsewhere (not contends) behind
same_reasons senseless elsewhere fits contends card behind = go (dec_lt 15 card)
  where
    go : Dec (15 < card)
        → of_card senseless (not (true && leb card 15)) (not (true && (ltb 15 card || fits))) elsewhere (not (true && (ltb 15 card || contends))) behind
        ≡ of_card senseless (ltb 15 card) (leb card 15 && not fits) elsewhere (not contends) behind
    go (yes high) = rw (lt-ltb 15 card high, lt-leb card 15 high)
    go (no low) = rw (le-ltb 15 card (omega arith), le-leb card 15 (omega arith))

-- what stands behind the five counts where they don't apply
behind_five : (senseless high missing elsewhere idle : Bool) (behind : ℕ)
    → of_card senseless high missing elsewhere idle behind
    ≡ cond (eqb (of_card senseless high missing elsewhere idle 0) 0) behind (of_card senseless high missing elsewhere idle 0)
behind_five true high missing elsewhere idle behind = refl
behind_five false true missing elsewhere idle behind = refl
behind_five false false true elsewhere idle behind = refl
behind_five false false false true idle behind = refl
behind_five false false false false true behind = refl
behind_five false false false false false behind = refl

module _ (bus : Bus) (card : ℕ) where
  -- the sixth reason
  abbrev lines_judged : ℕ
  lines_judged = cond (not (is_settled bus)) Refusal.unsettled 0

  -- the list's five, and then the lines
  as_listed : outcome_refusal bus card ≡ cond (eqb (list_refusal bus (card ∷ [])) 0) lines_judged (list_refusal bus (card ∷ []))
  unfolding outcome_refusal list_refusal first_of every_listed all_below
  as_listed =
      sym (same_reasons (is_senseless bus) (is_elsewhere bus) (card_in bus.fitted card) (card_in bus.contenders card) card lines_judged)
      ∙ behind_five (is_senseless bus) (lists_no_card (card ∷ [])) (lists_unfitted bus (card ∷ [])) (is_elsewhere bus) (lists_idle bus (card ∷ [])) lines_judged

  -- over no list at all settle asks for the lines alone, where state and phase are in order
  over_none : makes_sense bus ≡ true → bus.phase ≡ Phase.arbitration → (settle_of bus []).answer ≡ lines_judged
  unfolding settle_refusal first_of every_listed all_below never_settles settled_after after_looks_of
  over_none sense phase = answers bus [] ∙ rw (sense, eq-eqb _ _ phase)

pub refused_as_in_settle : RefusedAsInSettle
refused_as_in_settle bus card = (
  λ listed. answer_is bus card ∙ as_listed bus card ∙ rw (ne_eqb _ _ listed),
  λ none.
      let order = list_in_order bus (card ∷ []) none in
      answer_is bus card ∙ as_listed bus card ∙ rw (eq-eqb _ _ none) (sym (over_none bus card order.0 order.1)),
)
