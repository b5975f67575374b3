-- What settle answers: the least count, or the state as given.
use Prim.Native.Nat.{ℕ, suc, suc-le-suc, ◌<◌, ◌≤◌}
use mathlib.Core.Path.{◌≡◌, refl, sym, subst, ap, ◌∙◌}
use mathlib.Core.Logic.{◌⊎◌, inl, inr, ⊎_elim}
use mathlib.Core.Bool.{Bool, true, false, cond, not, true≢false, false≢true}
use mathlib.Core.List.{List, [], ◌∷◌, ◌++◌, flatten}
use native.Mathlib.Nat.{le_refl, le_of_suc-le-suc}
use native.Mathlib.Omega.{arith}
use lib.Dec.{eqb, lit<}
use lib.ListN.{length, take}
use lib.Seq.{take-length}
use borrow.Author.Tests.{eqb-true, eqb-false, eq-eqb, ne_eqb, not-true, not-false}
use Rattle.words.specs.First.{applies_as, ascends_from}
use Rattle.words.proofs.TestLaws.{true_or_false}
use Rattle.words.proofs.BelowLaws.{all_at, all_of, some_not}
use Rattle.words.proofs.FirstLaws.{first_below, first_none, first_by_number, least_passes, least_first, least_below_holds}
use Rattle.lines.specs.Arbitration.{Highest}
use Rattle.phases.specs.Phase as Phase
use Rattle.bus.specs.Refusal as Refusal
use Rattle.bus.specs.State.{arbitration_of, is_settled}
use Rattle.bus.specs.Sense.{codes_known, makes_sense}
use Rattle.bus.specs.Setup.{setup_of}
use Rattle.bus.specs.Steps.{after_looks_of}
use Rattle.bus.specs.Settle.{Settlement, settled_after, leading_looks, never_settles, list_reasons, settle_reasons, list_refusal, settle_refusal, settle_refused, accepted_after, settle_of}
use Rattle.bus.specs.Promises.{SettledBy, SettleRefusedKeeps, SettleCountsLeast, SettleByNumber, NoBuffersThere, SettleUnsettled, FourRoundsListed}
use Rattle.bus.specs.declared.state.Bus.{Bus}
use Rattle.bus.specs.declared.state.Chassis.{Chassis}
use Rattle.bus.proofs.Granting.{highest_there, four_rounds}
use Rattle.bus.proofs.SettleLaws.{judged}

module _ (bus : Bus) (cards : List ℕ) where
  -- ---- The two ways to answer

  settle_accepted : settle_refusal bus cards ≡ 0 → settle_of bus cards ≡ accepted_after (leading_looks bus cards) bus cards
  unfolding settle_of
  settle_accepted e = rw (eq-eqb _ _ e)

  settle_refused_holds : (settle_refusal bus cards ≡ 0 → ⊥) → settle_of bus cards ≡ settle_refused (settle_refusal bus cards) bus
  unfolding settle_of
  settle_refused_holds e = rw (ne_eqb _ _ e)

  pub answers : (settle_of bus cards).answer ≡ settle_refusal bus cards
  answers = go (true_or_false (eqb (settle_refusal bus cards) 0))
    where
      go : (eqb (settle_refusal bus cards) 0 ≡ true) ⊎ (eqb (settle_refusal bus cards) 0 ≡ false) → (settle_of bus cards).answer ≡ settle_refusal bus cards
      go (inl t) = rw (settle_accepted (eqb-true _ _ t)) (sym (eqb-true _ _ t))
      go (inr f) = rw (settle_refused_holds (eqb-false _ _ f))

  -- ---- The count

  -- some leading part settles the lines, if settle is accepted
  sometime : settle_refusal bus cards ≡ 0 → never_settles bus cards ≡ false
  sometime e = go (true_or_false (never_settles bus cards)) (eqb (list_refusal bus cards) 0) refl
    where
      go : (never_settles bus cards ≡ true) ⊎ (never_settles bus cards ≡ false) → (b : Bool) → eqb (list_refusal bus cards) 0 ≡ b → never_settles
          bus cards ≡ false
      go (inr f) b q = f
      go (inl t) true q =
          let eight : settle_refusal bus cards ≡ 8 = judged bus cards ∙ rw (q, t) in
          absurd (omega (arith, e))
      go (inl t) false q =
          let same : settle_refusal bus cards ≡ list_refusal bus cards = judged bus cards ∙ rw q in
          absurd (eqb-false _ _ q (sym same ∙ e))

  leading_passes : never_settles bus cards ≡ false → leading_looks bus cards < suc (length cards)
  unfolding never_settles leading_looks
  leading_passes f =
      let found = some_not _ (suc (length cards)) f in
      least_below_holds (settled_after bus cards) (suc (length cards)) found.0 found.1.0 (not-false _ found.1.1)

  settled_by : settle_refusal bus cards ≡ 0 → SettledBy bus cards (settle_of bus cards)
  unfolding leading_looks settled_after
  settled_by e = rw (settle_accepted e) record {
    within = le_of_suc-le-suc (leading_passes (sometime e));
    reached = refl;
    still = least_passes (settled_after bus cards) (suc (length cards)) (leading_passes (sometime e));
    least = least_first (settled_after bus cards) (suc (length cards));
  }

  -- ---- Unsettled

  never_of : ((n : ℕ) → n ≤ length cards → is_settled (after_looks_of bus (take n cards)) ≡ false) → never_settles bus cards ≡ true
  unfolding never_settles settled_after
  never_of each = all_of _ (suc (length cards)) (λ n h. ap not (each n (le_of_suc-le-suc h)))

  never_at : never_settles bus cards ≡ true → (n : ℕ) → n ≤ length cards → is_settled (after_looks_of bus (take n cards)) ≡ false
  unfolding never_settles settled_after
  never_at e n h = not-true _ (all_at _ (suc (length cards)) e n (suc-le-suc h))

  -- where the list is in order, the answer goes by the looks alone
  looks_judged : list_refusal bus cards ≡ 0 → (settle_of bus cards).answer ≡ cond (never_settles bus cards) Refusal.unsettled 0
  looks_judged e = answers ∙ judged bus cards ∙ rw (eq-eqb _ _ e)

  unsettled_never : (b : Bool) → cond b Refusal.unsettled 0 ≡ Refusal.unsettled → b ≡ true
  unsettled_never true e = refl
  unsettled_never false e = absurd (omega (arith, e))

-- ---- The promises

pub settle_refused_keeps : SettleRefusedKeeps
settle_refused_keeps bus cards refused =
    let kept : settle_of bus cards ≡ settle_refused (settle_refusal bus cards) bus = settle_refused_holds bus cards (λ e. refused (answers bus cards ∙ e)) in
    (ap (λ (s : Settlement). s.bus) kept, ap (λ (s : Settlement). s.looks) kept)

pub settle_counts_least : SettleCountsLeast
settle_counts_least bus cards e = settled_by bus cards (sym (answers bus cards) ∙ e)

pub settle_by_number : SettleByNumber
unfolding settle_refusal ascends_from
settle_by_number bus cards n h =
    let lowest = first_by_number (settle_reasons bus cards) refl n h in
    (λ e. lowest.0 (sym (answers bus cards) ∙ e), λ low. answers bus cards ∙ lowest.1 low)

setup_not_one : (chassis : Chassis) → (setup_of chassis).answer ≡ Refusal.wrong_buffers → ⊥
setup_not_one chassis = ⊎_elim (λ known. rw known none) (λ unknown. rw unknown eleven) (true_or_false (codes_known chassis))
  where
    none : ◌≡◌ {A = ℕ} 0x00 0x01 → ⊥
    none e = omega (arith, e)

    eleven : ◌≡◌ {A = ℕ} 0x0B 0x01 → ⊥
    eleven e = omega (arith, e)

pub no_buffers_there : NoBuffersThere
unfolding applies_as
no_buffers_there = (λ bus cards given. false≢true ((settle_by_number bus cards Refusal.wrong_buffers (lit< tt)).0 given).0, setup_not_one)

-- what is wrong with the state or the list comes first
list_first : (bus : Bus) (cards : List ℕ) → (list_refusal bus cards ≡ 0 → ⊥) → (settle_of bus cards).answer ≡ list_refusal bus cards
list_first bus cards wrong = answers bus cards ∙ judged bus cards ∙ rw (ne_eqb _ _ wrong)

pub settle_unsettled : SettleUnsettled
settle_unsettled bus cards e = (
  λ unsettled. never_at bus cards (unsettled_never bus cards (never_settles bus cards) (sym (looks_judged bus cards e) ∙ unsettled)),
  λ each. looks_judged bus cards e ∙ ap (λ (b : Bool). cond b Refusal.unsettled 0) (never_of bus cards each),
)

-- ---- A list of four rounds

-- what is wrong with a list is never that the lines are unsettled
list_never_unsettled : (bus : Bus) (cards : List ℕ) → list_refusal bus cards ≡ Refusal.unsettled → ⊥
unfolding list_refusal
list_never_unsettled bus cards e =
    let lower = first_below Refusal.unsettled (list_reasons bus cards) (lit< tt) refl in
    omega (arith, lower, e)

-- where nothing is wrong the state makes sense, and is in arbitration
pub list_in_order : (bus : Bus) (cards : List ℕ) → list_refusal bus cards ≡ 0 → (makes_sense bus ≡ true) × (bus.phase ≡ Phase.arbitration)
unfolding list_refusal
list_in_order bus cards e =
    let senseless = first_none _ _ refl e in
    let malformed = first_none _ _ refl senseless.1 in
    let unfitted = first_none _ _ refl malformed.1 in
    let elsewhere = first_none _ _ refl unfitted.1 in
    (not-false _ senseless.0, eqb-true _ _ (not-false _ elsewhere.0))

pub four_rounds_listed : FourRoundsListed
four_rounds_listed bus r₁ r₂ r₃ r₄ e₁ e₂ e₃ e₄ further unsettled =
    true≢false
    (sym (four_rounds bus in_order.0 in_order.1 best.0 best.1 r₁ r₂ r₃ r₄ e₁ e₂ e₃ e₄ further).1
    ∙ subst (λ (l : List ℕ). is_settled (after_looks_of bus l) ≡ false) (take-length looks)
    ((settle_unsettled bus looks nothing_wrong).0 unsettled (length looks) (le_refl (length looks))))
  where
    looks : List ℕ
    looks = flatten (r₁ ∷ r₂ ∷ r₃ ∷ r₄ ∷ []) ++ further

    nothing_wrong : list_refusal bus looks ≡ 0
    nothing_wrong = go (true_or_false (eqb (list_refusal bus looks) 0))
      where
        go : (eqb (list_refusal bus looks) 0 ≡ true) ⊎ (eqb (list_refusal bus looks) 0 ≡ false) → list_refusal bus looks ≡ 0
        go (inl t) = eqb-true _ _ t
        go (inr f) = absurd (list_never_unsettled bus looks (sym (list_first bus looks (eqb-false _ _ f)) ∙ unsettled))

    in_order : (makes_sense bus ≡ true) × (bus.phase ≡ Phase.arbitration)
    in_order = list_in_order bus looks nothing_wrong

    best : (m : ℕ) × Highest (arbitration_of bus) m
    best = let there = highest_there bus in_order.0 in_order.1 in (there.0, there.1.0)
