-- What every step and settle keep: the sense of a state, and its chassis.
use Prim.Native.Nat.{ℕ, ◌<◌, ◌≤◌}
use mathlib.Core.Path.{◌≡◌, refl, sym, subst, ◌∙◌}
use mathlib.Core.Logic.{◌⊎◌, inl, inr}
use mathlib.Core.Bool.{Bool, true, false, cond, true≢false}
use mathlib.Core.List.{List, [], ◌∷◌}
use native.Mathlib.Nat.{le_of_suc-le-suc}
use native.Mathlib.Omega.{arith}
use lib.Dec.{eqb, lit≤}
use lib.ListN.{get_or, get_or-replicate, take}
use borrow.Author.Tests.{eqb-true}
use Rattle.words.proofs.TestLaws.{true_or_false, both_of, all_three}
use Rattle.lines.specs.Arbitration.{after_look}
use Rattle.lines.proofs.LevelLaws.{length_look, after_look_holds, looked_in_range, idle_look}
use Rattle.phases.specs.Phase as Phase
use Rattle.cards.specs.Cards.{card_in, some_card, is_within}
use Rattle.cards.proofs.CardLaws.{card_below, none_in_empty, within_at, some_at}
use Rattle.bus.specs.Refusal as Refusal
use Rattle.bus.specs.State.{chassis_of, free_bus, changed, nobody, silent, arbitration_of, lines_of, is_settled}
use Rattle.bus.specs.Steps.{may_request, may_look, looked_by, after_looks_of, may_acknowledge, may_transfer, transferred, reset_to}
use Rattle.bus.specs.Step.{step_by}
use Rattle.bus.specs.Settle.{leading_looks, settle_refusal, settle_refused, accepted_after, settle_of}
use Rattle.bus.specs.Promises.{
  ChassisSensible,
  ContentionSensible,
  DrivingSensible,
  GrantSensible,
  Sensible,
  SenseKept,
  SenseKeptBySettle,
  ChassisHolds,
  ChassisKept,
  ChassisKeptBySettle,
}
use Rattle.bus.specs.declared.state.Bus.{Bus}
use Rattle.bus.specs.declared.state.Chassis.{Chassis}
use Rattle.bus.specs.declared.step.Step.{Step}
use Rattle.bus.proofs.SenseLaws.{sense_means}
use Rattle.bus.proofs.Granting.{looked_by_holds, settled_highest}

-- ---- The clauses, as steps leave them. A clause that a step does not touch is kept as it was, by its place in Sensible.

-- nobody contends
none_contends : (fitted phase contenders : ℕ) → (phase ≡ Phase.arbitration → ⊥) → ((n : ℕ) → card_in contenders n ≡ false)
    → ContentionSensible fitted phase contenders
none_contends fitted phase contenders elsewhere none = record {
  contenders_fitted = λ n c. absurd (true≢false (sym c ∙ none n));
  some_in_arbitration = λ a. absurd (elsewhere a);
  none_elsewhere = λ a. none;
}

-- all are silent, whoever contends
silent_driving : (contenders : ℕ) → DrivingSensible contenders silent
silent_driving contenders = record {
  sixteen_levels = refl;
  contender_drives = λ n c. let level : get_or silent n 0 ≡ 0 = silent_at n (card_below contenders n c) in omega (arith, level);
  idle_drives = λ n h c. silent_at n h;
}
  where
    silent_at : (n : ℕ) → n < 16 → get_or silent n 0 ≡ 0
    silent_at n h = get_or-replicate 16 n 0 0 h

-- nobody is granted
none_granted : (fitted phase granted : ℕ) → (Phase.granted ≤ phase → phase ≤ Phase.transfer_two → ⊥) → granted ≡ nobody → GrantSensible fitted phase granted
none_granted fitted phase granted outside none = record {
  granted_fitted = λ low high. absurd (outside low high);
  nobody_elsewhere = λ elsewhere. none;
}

-- this card is
card_granted : (fitted phase card : ℕ) → Phase.granted ≤ phase → phase ≤ Phase.transfer_two → card_in fitted card ≡ true → GrantSensible fitted phase card
card_granted fitted phase card low high c = record { granted_fitted = λ l h. c; nobody_elsewhere = λ outside. absurd (outside low high) }

pub free_sense : (chassis : Chassis) → ChassisSensible chassis → Sensible (free_bus chassis)
free_sense chassis s = record {
  chassis = s;
  phase_known = lit≤ tt;
  contention = none_contends chassis.fitted Phase.free 0 (λ a. omega (arith, a)) none_in_empty;
  driving = silent_driving 0;
  grant = none_granted chassis.fitted Phase.free nobody (λ low high. omega (arith, low)) refl;
}

-- ---- Each step

-- what no step changes is kept here, once for all of them
changed_sense : (bus : Bus) {phase contenders granted : ℕ} {driven : List ℕ} → Sensible bus → phase ≤ Phase.last
    → ContentionSensible bus.fitted phase contenders → DrivingSensible contenders driven → GrantSensible bus.fitted phase granted
    → Sensible (changed bus phase contenders driven granted)
changed_sense bus s known contention driving grant = record {
  chassis = s.chassis;
  phase_known = known;
  contention = contention;
  driving = driving;
  grant = grant;
}

reset_sense : (bus : Bus) → Sensible bus → Sensible (reset_to bus)
reset_sense bus s =
    changed_sense bus s (lit≤ tt)
    (none_contends bus.fitted Phase.free 0 (λ a. omega (arith, a)) none_in_empty)
    (silent_driving 0)
    (none_granted bus.fitted Phase.free nobody (λ low high. omega (arith, low)) refl)

request_sense : (bus : Bus) (cards : ℕ) → Sensible bus → may_request bus cards ≡ true → Sensible (changed bus Phase.arbitration cards silent bus.granted)
request_sense bus cards s may =
    changed_sense bus s (lit≤ tt)
    record {
      contenders_fitted = within_at cards bus.fitted each.1.1;
      some_in_arbitration = λ a. some_at cards each.1.0;
      none_elsewhere = λ a. absurd (a refl);
    }
    (silent_driving cards)
    (none_granted bus.fitted Phase.arbitration bus.granted (λ low high. omega (arith, low))
    (s.grant.nobody_elsewhere (λ low high. omega (arith, low, here))))
  where
    each : (eqb bus.phase Phase.free ≡ true) × ((some_card cards ≡ true) × (is_within cards bus.fitted ≡ true))
    each = all_three (eqb bus.phase Phase.free) (some_card cards) (is_within cards bus.fitted) may

    here : bus.phase ≡ Phase.free
    here = eqb-true _ _ each.0

-- a look changes one level, to what four lines can show
levels_sense : (bus : Bus) (card : ℕ) → Sensible bus
    → Sensible (changed bus bus.phase bus.contenders (after_look (arbitration_of bus) bus.driven card) bus.granted)
levels_sense bus card s =
    changed_sense bus s s.phase_known s.contention
    record {
      sixteen_levels = length_look (arbitration_of bus) bus.driven card ∙ s.driving.sixteen_levels;
      contender_drives = λ n c.
          after_look_holds (arbitration_of bus) (λ (x : ℕ). x ≤ 15) bus.driven card n (s.driving.contender_drives n c)
          (le_of_suc-le-suc (looked_in_range (arbitration_of bus) bus.driven n));
      idle_drives = λ n h c. idle_look (arbitration_of bus) bus.driven card n c ∙ s.driving.idle_drives n h c;
    }
    s.grant

acknowledge_sense : (bus : Bus) → Sensible bus → may_acknowledge bus ≡ true → Sensible (changed bus Phase.granted 0 silent (lines_of bus))
acknowledge_sense bus s may =
    changed_sense bus s (lit≤ tt)
    (none_contends bus.fitted Phase.granted 0 (λ a. omega (arith, a)) none_in_empty)
    (silent_driving 0)
    (card_granted bus.fitted Phase.granted (lines_of bus) (lit≤ tt) (lit≤ tt) (s.contention.contenders_fitted (lines_of bus) winner))
  where
    winner : card_in bus.contenders (lines_of bus) ≡ true
    winner =
        let each = all_three (eqb bus.phase Phase.arbitration) (some_card bus.contenders) (is_settled bus) may in
        (settled_highest bus each.1.0 each.1.1).contender.contending

-- a granted card's step from its phase
module _ (bus : Bus) (from card : ℕ) (low : Phase.granted ≤ from) (high : from ≤ Phase.transfer_two) (s : Sensible bus)
    (may : may_transfer bus from card ≡ true) where
  here : bus.phase ≡ from
  here = eqb-true _ _ (both_of (eqb bus.phase from) (eqb bus.granted card) may).0

  -- nobody contends in a granted card's phases
  contention_after : (to : ℕ) → (to ≡ Phase.arbitration → ⊥) → ContentionSensible bus.fitted to bus.contenders
  contention_after to elsewhere =
      none_contends bus.fitted to bus.contenders elsewhere (s.contention.none_elsewhere (λ a. omega (arith, a, here, low)))

  -- from one such phase to another
  transfer_sense : (to : ℕ) → Phase.granted ≤ to → to ≤ Phase.transfer_two → Sensible (changed bus to bus.contenders bus.driven bus.granted)
  transfer_sense to later last =
      changed_sense bus s (omega (arith, last))
      (contention_after to (λ a. omega (arith, a, later)))
      s.driving
      (card_granted bus.fitted to bus.granted later last (s.grant.granted_fitted (omega (arith, here, low)) (omega (arith, here, high))))

  give_back_sense : Sensible (changed bus Phase.free bus.contenders bus.driven nobody)
  give_back_sense =
      changed_sense bus s (lit≤ tt)
      (contention_after Phase.free (λ a. omega (arith, a)))
      s.driving
      (none_granted bus.fitted Phase.free nobody (λ l h. omega (arith, l)) refl)

-- by whether a step is taken
either_sense : (b : Bool) {taken left : Bus} → (b ≡ true → Sensible taken) → Sensible left → Sensible (cond b taken left)
either_sense true taken left = taken refl
either_sense false taken left = left

look_sense : (bus : Bus) (card : ℕ) → Sensible bus → Sensible (looked_by bus card)
look_sense bus card s = go (true_or_false (may_look bus card))
  where
    go : (may_look bus card ≡ true) ⊎ (may_look bus card ≡ false) → Sensible (looked_by bus card)
    go (inl may) =
        let here : bus.phase ≡ Phase.arbitration = eqb-true _ _ (both_of (eqb bus.phase Phase.arbitration) (card_in bus.contenders card) may).0 in
        subst Sensible (sym (looked_by_holds bus here card)) (levels_sense bus card s)
    go (inr may) = rw may s

looks_sense : (cards : List ℕ) (bus : Bus) → Sensible bus → Sensible (after_looks_of bus cards)
unfolding after_looks_of
looks_sense [] bus s = s
looks_sense (card ∷ cards) bus s = looks_sense cards (looked_by bus card) (look_sense bus card s)

-- a granted card's step, from one of its phases to another
handed_on : (bus : Bus) (from to : ℕ) → (Phase.granted ≤ from) × (from ≤ Phase.transfer_two) → (Phase.granted ≤ to) × (to ≤ Phase.transfer_two) → (card : ℕ)
    → Sensible bus → Sensible (transferred bus from to card)
handed_on bus from to before after card s =
    either_sense (may_transfer bus from card) (λ may. transfer_sense bus from card before.0 before.1 s may to after.0 after.1) s

-- ---- All of them

keeps_sense : (step : Step) (bus : Bus) (speaker datum : ℕ) → Sensible bus → Sensible (step_by step bus speaker datum)
keeps_sense Step.Request bus speaker datum s = either_sense (may_request bus datum) (request_sense bus datum s) s
keeps_sense Step.Look bus speaker datum s = look_sense bus speaker s
keeps_sense Step.Acknowledge bus speaker datum s = either_sense (may_acknowledge bus) (acknowledge_sense bus s) s
keeps_sense Step.BeginTransferOne bus speaker datum s = handed_on bus Phase.granted Phase.transfer_one (lit≤ tt, lit≤ tt) (lit≤ tt, lit≤ tt) speaker s
keeps_sense Step.TakeBus bus speaker datum s = handed_on bus Phase.transfer_one Phase.owned (lit≤ tt, lit≤ tt) (lit≤ tt, lit≤ tt) speaker s
keeps_sense Step.Cycle bus speaker datum s = s
keeps_sense Step.BeginTransferTwo bus speaker datum s = handed_on bus Phase.owned Phase.transfer_two (lit≤ tt, lit≤ tt) (lit≤ tt, lit≤ tt) speaker s
keeps_sense Step.GiveBack bus speaker datum s =
    either_sense (may_transfer bus Phase.transfer_two speaker) (give_back_sense bus Phase.transfer_two speaker (lit≤ tt) (lit≤ tt) s) s
keeps_sense Step.Reset bus speaker datum s = reset_sense bus s

pub sense_kept : SenseKept
sense_kept step bus speaker datum e = (sense_means (step_by step bus speaker datum)).1 (keeps_sense step bus speaker datum ((sense_means bus).0 e))

-- settle hands back the state as it was, or looked at
by_settle : (P : Bus → Type 0) (bus : Bus) (cards : List ℕ) → P bus → ((looks : List ℕ) → P (after_looks_of bus looks)) → P (settle_of bus cards).bus
unfolding settle_of
by_settle P bus cards left looked = go (eqb (settle_refusal bus cards) Refusal.accepted)
  where
    go : (b : Bool) → P (cond b (accepted_after (leading_looks bus cards) bus cards) (settle_refused (settle_refusal bus cards) bus)).bus
    go true = looked (take (leading_looks bus cards) cards)
    go false = left

pub sense_kept_by_settle : SenseKeptBySettle
sense_kept_by_settle bus cards e =
    let s = (sense_means bus).0 e in
    (sense_means (settle_of bus cards).bus).1 (by_settle Sensible bus cards s (λ looks. looks_sense looks bus s))

-- ---- The chassis

either_kept : (bus : Bus) (b : Bool) (phase contenders : ℕ) (driven : List ℕ) (granted : ℕ)
    → chassis_of (cond b (changed bus phase contenders driven granted) bus) ≡ chassis_of bus
either_kept bus true phase contenders driven granted = refl
either_kept bus false phase contenders driven granted = refl

pub chassis_holds : ChassisHolds
chassis_holds bus = (refl, refl)

pub chassis_kept : ChassisKept
chassis_kept Step.Request bus speaker datum = either_kept bus (may_request bus datum) _ _ _ _
chassis_kept Step.Look bus speaker datum = either_kept bus (may_look bus speaker) _ _ _ _
chassis_kept Step.Acknowledge bus speaker datum = either_kept bus (may_acknowledge bus) _ _ _ _
chassis_kept Step.BeginTransferOne bus speaker datum = either_kept bus (may_transfer bus Phase.granted speaker) _ _ _ _
chassis_kept Step.TakeBus bus speaker datum = either_kept bus (may_transfer bus Phase.transfer_one speaker) _ _ _ _
chassis_kept Step.Cycle bus speaker datum = refl
chassis_kept Step.BeginTransferTwo bus speaker datum = either_kept bus (may_transfer bus Phase.owned speaker) _ _ _ _
chassis_kept Step.GiveBack bus speaker datum = either_kept bus (may_transfer bus Phase.transfer_two speaker) _ _ _ _
chassis_kept Step.Reset bus speaker datum = refl

looks_kept : (cards : List ℕ) (bus : Bus) → chassis_of (after_looks_of bus cards) ≡ chassis_of bus
unfolding after_looks_of
looks_kept [] bus = refl
looks_kept (card ∷ cards) bus = looks_kept cards (looked_by bus card) ∙ chassis_kept Step.Look bus card 0

pub chassis_kept_by_settle : ChassisKeptBySettle
chassis_kept_by_settle bus cards = by_settle (λ (b : Bus). chassis_of b ≡ chassis_of bus) bus cards refl (λ looks. looks_kept looks bus)
