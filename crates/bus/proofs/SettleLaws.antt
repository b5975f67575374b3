-- Where the looks of a list stop, and what settle then answers.
use Prim.Native.Nat.{ℕ, suc, ◌+◌, ◌<◌, ◌≤◌}
use mathlib.Core.Path.{◌≡◌, refl, sym, ap, subst, ◌∙◌}
use mathlib.Core.Logic.{⊎_elim}
use mathlib.Core.Bool.{Bool, true, false, cond, not, true≢false}
use mathlib.Core.List.{List, [], ◌∷◌}
use native.Mathlib.Nat.{not-suc-le-zero}
use native.Mathlib.Numerals.{add-one}
use native.Mathlib.Omega.{arith}
use lib.Dec.{eqb, lit<}
use lib.ListN.{length, get_or, take}
use borrow.Author.Tests.{ne_eqb, not-true}
use Rattle.words.specs.First.{reason, first_of}
use Rattle.words.proofs.TestLaws.{true_or_false}
use Rattle.words.proofs.BelowLaws.{last_or_below, all_at, all_of}
use Rattle.words.proofs.FirstLaws.{Numbered, first_append, least_is}
use Rattle.bus.specs.Refusal as Number
use Rattle.bus.specs.State.{is_settled}
use Rattle.bus.specs.Steps.{looked_by, after_looks_of}
use Rattle.bus.specs.Settle.{
  Settlement,
  settled_after,
  leading_looks,
  never_settles,
  list_reasons,
  list_refusal,
  settle_refusal,
  settle_refused,
  accepted_after,
  settle_of,
}
use Rattle.bus.specs.Told.{number_of}
use Rattle.bus.specs.declared.refusal.Refusal.{Refusal}
use Rattle.bus.specs.declared.state.Bus.{Bus}
use Rattle.bus.proofs.LookRuns.{look_next}
use Rattle.bus.proofs.ToldLaws.{never_accepted}

module _ (bus : Bus) (cards : List ℕ) where
  -- none of the first n leading parts settles the lines
  abbrev pub NotBefore : ℕ → Type 0
  NotBefore n = (k : ℕ) → k < n → settled_after bus cards k ≡ false

  -- what the looks answer, where nothing is wrong with the list
  abbrev pub looks_answer : Settlement
  looks_answer = cond (never_settles bus cards) (settle_refused Number.unsettled bus) (accepted_after (leading_looks bus cards) bus cards)

  -- the first n looks lead to this state, and the lines were not settled before
  abbrev pub Reached : ℕ → Bus → Type 0
  Reached n reached = (reached ≡ after_looks_of bus (take n cards)) × NotBefore n

  pub reached_at_first : Reached 0 bus
  unfolding after_looks_of
  reached_at_first = (refl, λ k h. absurd (not-suc-le-zero h))

  pub settled_after_holds : (n : ℕ) {reached : Bus} → reached ≡ after_looks_of bus (take n cards) → settled_after bus cards n ≡ is_settled reached
  unfolding settled_after
  settled_after_holds n e = ap is_settled (sym e)

  -- not settled after n looks either
  pub not_yet : (n : ℕ) {reached : Bus} → Reached n reached → is_settled reached ≡ false → NotBefore (suc n)
  not_yet n {reached} r f k h =
      ⊎_elim (λ (s : k ≡ n). ap (settled_after bus cards) s ∙ settled_after_holds n r.0 ∙ f) (r.1 k) (last_or_below h)

  pub reached_next : (n : ℕ) {reached next : Bus} → Reached n reached → is_settled reached ≡ false → n < length cards
      → next ≡ looked_by reached (get_or cards n 0) → Reached (n + 1) next
  reached_next n r f h e =
      (e ∙ ap (λ (b : Bus). looked_by b (get_or cards n 0)) r.0 ∙ look_next bus cards n h, subst NotBefore (sym (add-one n)) (not_yet n r f))

  pub stops : (n : ℕ) {reached : Bus} → Reached n reached → is_settled reached ≡ true → n ≤ length cards
      → ◌≡◌ {A = Settlement} (record { answer = Number.accepted; bus = reached; looks = n }) looks_answer
  unfolding leading_looks never_settles
  stops n {reached} r t h = rw (r.0, sometime, least)
    where
      at_n : settled_after bus cards n ≡ true
      at_n = settled_after_holds n r.0 ∙ t

      least : leading_looks bus cards ≡ n
      least = least_is (settled_after bus cards) (suc (length cards)) n r.1 at_n (omega arith)

      sometime : never_settles bus cards ≡ false
      sometime = ⊎_elim (λ w. absurd (true≢false (sym at_n ∙ not-true _ (all_at _ (suc (length cards)) w n (omega arith))))) (λ f. f) (true_or_false _)

  pub never : {reached : Bus} → Reached (length cards) reached → is_settled reached ≡ false → settle_refused Number.unsettled bus ≡ looks_answer
  unfolding never_settles
  never r f = let w : never_settles bus cards ≡ true = all_of _ (suc (length cards)) (λ k h. ap not (not_yet (length cards) r f k h)) in rw w

  -- ---- Judging the list first, and then the looks

  reasons_numbered : Numbered (list_reasons bus cards)
  unfolding Numbered
  reasons_numbered = (lit< tt, (lit< tt, (lit< tt, (lit< tt, (lit< tt, tt)))))

  pub judged : settle_refusal bus cards ≡ cond (eqb (list_refusal bus cards) 0) (cond (never_settles bus cards) Number.unsettled 0) (list_refusal bus cards)
  unfolding settle_refusal list_refusal first_of
  judged = first_append (list_reasons bus cards) (reason Number.unsettled (never_settles bus cards) ∷ []) reasons_numbered

  pub list_refused : (refusal : Refusal) → number_of refusal ≡ list_refusal bus cards → settle_refused (number_of refusal) bus ≡ settle_of bus cards
  unfolding settle_of
  list_refused refusal e =
      let some = ne_eqb _ _ (never_accepted refusal) in
      let same : settle_refusal bus cards ≡ number_of refusal = judged ∙ rw (← e, some) in
      rw (same, some)

  pub list_accepted : Number.accepted ≡ list_refusal bus cards → looks_answer ≡ settle_of bus cards
  unfolding settle_of
  list_accepted e =
      let same : settle_refusal bus cards ≡ cond (never_settles bus cards) Number.unsettled 0 = judged ∙ rw (← e) in
      rw same (by_cases (never_settles bus cards))
    where
      by_cases : (b : Bool) → cond b (settle_refused Number.unsettled bus) (accepted_after (leading_looks bus cards) bus cards)
          ≡ cond (eqb (cond b Number.unsettled 0) 0) (accepted_after (leading_looks bus cards) bus cards) (settle_refused (cond b Number.unsettled 0) bus)
      by_cases true = refl
      by_cases false = refl
