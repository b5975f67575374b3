-- The judgement as a chain of tests, and what kind and phase say of it.
use Prim.Native.Nat.{ℕ, ◌<◌}
use mathlib.Core.Path.{◌≡◌, refl, sym, ap, ◌∙◌}
use mathlib.Core.Logic.{◌⊎◌, ⊎_elim}
use mathlib.Core.Bool.{Bool, true, false, not, cond, ◌&&◌, true≢false}
use mathlib.Core.List.{List, [], ◌∷◌}
use lib.Dec.{eqb}
use lib.ListN.{drop}
use borrow.Author.Tests.{not-true}
use Rattle.words.specs.First.{Reason, first_of}
use Rattle.words.proofs.RowLaws.{end, ◌and◌}
use Rattle.words.proofs.TestLaws.{true_or_false, both_of}
use Rattle.phases.specs.Kind as Number
use Rattle.bus.specs.Refusal as Refusal
use Rattle.bus.specs.declared.state.Bus.{Bus}
use Rattle.judgement.specs.Table.{Row, has_turn, row_of}
use Rattle.judgement.specs.Refusals.{is_malformed, names_nobody, names_unfitted, is_wrong_phase}
use Rattle.judgement.specs.Judge.{Verdict, Refused, Takes, turn_reasons, sound_reasons, sound_refusal, sound_verdict}
use Rattle.judging.specs.Turns.{turn_of, ruled_of, asked_of}
use Rattle.judgement.specs.declared.event.Event.{Event}
use Rattle.judgement.proofs.TableLaws.{by_row}
use Rattle.judging.proofs.KindLaws.{no_other_has}

-- a number where a test holds, and else a later one: the verdict is that refusal, or the later verdict
verdict_first : (b : Bool) (step : Verdict) (n later : ℕ) → eqb n 0 ≡ false
    → cond (eqb (cond b n later) 0) step (Refused (cond b n later)) ≡ cond b (Refused n) (cond (eqb later 0) step (Refused later))
verdict_first true step n later e = rw e
verdict_first false step n later e = refl

-- so it is of a list of reasons, none of which is numbered 0: a chain of tests
unfoldable chain_of : List Reason → Verdict → Verdict
chain_of [] step = step
chain_of (r ∷ reasons) step = cond r.applies (Refused r.number) (chain_of reasons step)

unfoldable all_numbered : List Reason → Bool
all_numbered [] = true
all_numbered (r ∷ reasons) = not (eqb r.number 0) && all_numbered reasons

chain_of_holds : (reasons : List Reason) (step : Verdict) → all_numbered reasons ≡ true
    → cond (eqb (first_of reasons) 0) step (Refused (first_of reasons)) ≡ chain_of reasons step
unfolding first_of chain_of all_numbered
chain_of_holds [] step e = refl
chain_of_holds (r ∷ reasons) step e =
    let both = both_of (not (eqb r.number 0)) (all_numbered reasons) e in
    verdict_first r.applies step r.number (first_of reasons) (not-true _ both.0)
    ∙ ap (cond r.applies (Refused r.number)) (chain_of_holds reasons step both.1)

module _ (bus : Bus) (event : Event) where
  -- from 07 on, and then the step, of a row
  abbrev later_chain : Row → Verdict
  later_chain row =
      cond (not (has_turn row.speaker bus event.speaker)) (Refused Refusal.not_its_turn)
      (chain_of (drop 2 (turn_reasons bus event)) (Takes row.step))

  turn_chain : turn_of bus event ≡ cond (is_wrong_phase bus event) (Refused Refusal.wrong_phase) (later_chain (row_of event.kind))
  unfolding turn_of chain_of all_numbered
  turn_chain = chain_of_holds (turn_reasons bus event) (Takes (row_of event.kind).step) refl

  -- 03, 04 and 05 before it
  abbrev before_turn : Verdict → Verdict
  before_turn later =
      cond (is_malformed event) (Refused Refusal.malformed)
      (cond (names_nobody event) (Refused Refusal.nobody_named) (cond (names_unfitted bus.fitted event) (Refused Refusal.not_fitted) later))

  pub sound_chain : sound_verdict bus event ≡ before_turn (turn_of bus event)
  unfolding sound_verdict sound_refusal turn_of chain_of all_numbered
  sound_chain =
      chain_of_holds (sound_reasons bus event) step refl ∙ ap before_turn (sym (chain_of_holds (turn_reasons bus event) step refl))
    where
      step : Verdict
      step = Takes (row_of event.kind).step

  -- 03, where no kind has the event's number
  pub unknown_refused : (event.kind < Number.request) ⊎ (Number.last < event.kind) → sound_verdict bus event ≡ Refused Refusal.malformed
  unknown_refused unknown = rw (sound_chain, no_other_has event.kind unknown)

  -- what the step of a row asks for is what the row asks for
  AskedAlike : ℕ → Row → Type 0
  AskedAlike kind row = event.kind ≡ kind → row.allows bus.phase ≡ true → asked_of row.step bus event ≡ later_chain row

  asked_alike : (kind : ℕ) → AskedAlike kind (row_of kind)
  unfolding AskedAlike chain_of
  asked_alike kind =
      by_row AskedAlike
      ((λ e a. rw e) and (λ e a. rw e) and (λ e a. rw e) and (λ e a. rw e) and (λ e a. rw e) and (λ e a. rw e) and (λ e a. rw e) and (λ e a. rw e)
      and (λ e a. rw e) and (λ e a. rw e) and (λ e a. rw e) and (λ e a. rw e) and (λ e a. rw e) and (λ e a. rw e) and (λ e a. rw e) and end)
      kind
      (λ none e a. absurd (true≢false (sym a)))

  -- so the judgement from 06 on is what kind and phase say, and then what the step asks for
  abbrev pub asked_after : Verdict → Verdict
  asked_after (Refused number) = Refused number
  asked_after (Takes step) = asked_of step bus event

  pub turn_asks : turn_of bus event ≡ asked_after (ruled_of event.kind bus.phase)
  unfolding ruled_of AskedAlike
  turn_asks =
      turn_chain
      ∙ ⊎_elim (λ allowed. rw allowed (sym (asked_alike event.kind refl allowed))) (λ wrong. rw wrong) (true_or_false ((row_of event.kind).allows bus.phase))
