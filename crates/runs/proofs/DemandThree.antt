-- Demand 3: four rounds among other events, lines that stay, and the acknowledge.
use Prim.Native.Nat.{ℕ, ◌<◌}
use mathlib.Core.Path.{◌≡◌, refl, sym, subst, ap, ◌∙◌}
use mathlib.Core.Logic.{◌⊎◌, ◌↔◌, inl, inr}
use mathlib.Core.Bool.{Bool, true, false, not, cond, ◌||◌}
use mathlib.Core.List.{List, [], ◌∷◌, ◌++◌, append-nil, append_assoc, flatten}
use native.Mathlib.Nat.{le_of_suc-le-suc}
use native.Mathlib.Omega.{arith}
use lib.Dec.{eqb, ltb}
use lib.ListN.{get_or}
use lib.Seq.{get_or-set_same}
use borrow.Author.Tests.{eqb-false, le-ltb, le-leb, not-false}
use Rattle.words.specs.Among.{beside, has_beside}
use Rattle.words.specs.First.{first_of}
use Rattle.words.proofs.TestLaws.{true_or_false, neither_of}
use Rattle.words.proofs.BelowLaws.{some_not}
use Rattle.lines.specs.Arbitration.{four_lines, Contender, every_contender, looked, settled, is_round}
use Rattle.lines.proofs.Settling.{settled_at, settled_stays as lines_stay}
use Rattle.phases.specs.Phase as Phase
use Rattle.cards.specs.Cards.{card_in}
use Rattle.bus.specs.Refusal as Refusal
use Rattle.bus.specs.State.{changed, arbitration_of, lines_of, is_settled}
use Rattle.bus.specs.Steps.{after_looks_of}
use Rattle.bus.specs.Promises.{Sensible}
use Rattle.bus.specs.declared.state.Bus.{Bus}
use Rattle.bus.proofs.SenseLaws.{sense_means}
use Rattle.bus.proofs.Granting.{looks_drive, four_rounds}
use Rattle.judgement.specs.Judge.{sound_refusal}
use Rattle.judgement.proofs.Passed.{Passed, accepts, sound_call}
use Rattle.events.specs.Machine.{Machine, machine}
use Rattle.events.proofs.EachStep.{look_does, acknowledge_does}
use Rattle.runs.specs.Run.{Call, call, refusal_on, bus_after, after_all, looks_in, EachLooks, GoesOn}
use Rattle.runs.specs.Promises.{look_by, right_acknowledge, Right, Arbitrates, FourRoundsOfEvents, SettledBusStays, Restless, AcknowledgeRefused}
use Rattle.runs.proofs.RunLaws.{looks_append, goes_on_parts, sense_in_runs}
use Rattle.runs.proofs.ArbitrationRuns.{run_looks, run_keeps}

-- ---- An acknowledge as it should be

module _ (bus : Bus) (here : Arbitrates bus) (memory ports : List ℕ) (right : Right memory ports) where
  -- only the lines decide
  acknowledge_refusal : refusal_on bus (call right_acknowledge memory ports) ≡ cond (is_settled bus) Refusal.accepted Refusal.unsettled
  unfolding sound_refusal first_of beside has_beside
  acknowledge_refusal = sound_call bus right_acknowledge memory ports right (ap not here.sense) ∙ rw here.phase (go (is_settled bus))
    where
      go : (b : Bool) → cond (not b) Refusal.unsettled 0 ≡ cond b Refusal.accepted Refusal.unsettled
      go true = refl
      go false = refl

  accepted_settled : is_settled bus ≡ true → refusal_on bus (call right_acknowledge memory ports) ≡ Refusal.accepted
  accepted_settled still = acknowledge_refusal ∙ rw still

-- the lines are settled at this number: an acknowledge grants that card
pub grants_next : (bus : Bus) → Arbitrates bus → is_settled bus ≡ true → (card : ℕ) → lines_of bus ≡ card → (memory ports : List ℕ) → Right memory ports
    → (refusal_on bus (call right_acknowledge memory ports) ≡ Refusal.accepted)
    × (((bus_after bus (call right_acknowledge memory ports)).phase ≡ Phase.granted) × ((bus_after bus (call right_acknowledge memory ports)).granted ≡ card))
grants_next bus here still card lines memory ports right =
    let ok = accepted_settled bus here memory ports right still in
    let left = (acknowledge_does (machine bus memory ports) right_acknowledge (refl, ok)).does.leaves in
    (ok, (ap (λ (x : Machine). x.bus.phase) left, ap (λ (x : Machine). x.bus.granted) left ∙ lines))

-- ---- Four rounds

-- one list of looks, in two orders of joining
joined : (l₁ l₂ l₃ l₄ l₅ : List ℕ) → l₁ ++ l₂ ++ l₃ ++ l₄ ++ l₅ ≡ flatten (l₁ ∷ l₂ ∷ l₃ ∷ l₄ ∷ []) ++ l₅
unfolding flatten
joined l₁ l₂ l₃ l₄ l₅ =
    ap (λ (l : List ℕ). l ++ l₅)
    (append_assoc (l₁ ++ l₂) l₃ l₄
    ∙ append_assoc l₁ l₂ (l₃ ++ l₄)
    ∙ ap (λ (l : List ℕ). l₁ ++ (l₂ ++ (l₃ ++ l))) (sym (append-nil l₄)))

-- the looks of four stretches of a run, and of what is left of it
module _ (bus : Bus) (r₁ r₂ r₃ r₄ further : List Call) where
  abbrev in_four : List (List ℕ)
  in_four = looks_in bus r₁ ∷ looks_in (after_all bus r₁) r₂ ∷ looks_in (after_all bus (r₁ ++ r₂)) r₃ ∷ looks_in (after_all bus (r₁ ++ r₂ ++ r₃)) r₄ ∷ []

  abbrev in_rest : List ℕ
  in_rest = looks_in (after_all bus (r₁ ++ r₂ ++ r₃ ++ r₄)) further

  looks_of_five : looks_in bus (r₁ ++ r₂ ++ r₃ ++ r₄ ++ further) ≡ flatten in_four ++ in_rest
  looks_of_five =
      looks_append bus (r₁ ++ r₂ ++ r₃ ++ r₄) further
      ∙ ap (λ (l : List ℕ). l ++ in_rest)
      (looks_append bus (r₁ ++ r₂ ++ r₃) r₄
      ∙ ap (λ (l : List ℕ). l ++ looks_in (after_all bus (r₁ ++ r₂ ++ r₃)) r₄)
      (looks_append bus (r₁ ++ r₂) r₃ ∙ ap (λ (l : List ℕ). l ++ looks_in (after_all bus (r₁ ++ r₂)) r₃) (looks_append bus r₁ r₂)))
      ∙ joined (looks_in bus r₁) (looks_in (after_all bus r₁) r₂) (looks_in (after_all bus (r₁ ++ r₂)) r₃) (looks_in (after_all bus (r₁ ++ r₂ ++
      r₃)) r₄) in_rest

pub four_rounds_of_events : FourRoundsOfEvents
four_rounds_of_events bus here card best r₁ r₂ r₃ r₄ further on e₁ e₂ e₃ e₄ = record {
  arbitrates = arbitrating;
  contenders = kept.1;
  lines = lines;
  settled = still;
  next = grants_next end arbitrating still card lines;
}
  where
    all : List Call
    all = r₁ ++ r₂ ++ r₃ ++ r₄ ++ further

    end : Bus
    end = after_all bus all

    kept : (end.phase ≡ Phase.arbitration) × (end.contenders ≡ bus.contenders)
    kept = run_keeps all bus here.phase on

    arbitrating : Arbitrates end
    arbitrating = record { sense = sense_in_runs bus here.sense all; phase = kept.0 }

    on₄ : GoesOn bus (r₁ ++ r₂ ++ r₃ ++ r₄)
    on₄ = (goes_on_parts bus (r₁ ++ r₂ ++ r₃ ++ r₄) further on).0

    on₃ : GoesOn bus (r₁ ++ r₂ ++ r₃)
    on₃ = (goes_on_parts bus (r₁ ++ r₂ ++ r₃) r₄ on₄).0

    on₂ : GoesOn bus (r₁ ++ r₂)
    on₂ = (goes_on_parts bus (r₁ ++ r₂) r₃ on₃).0

    on₁ : GoesOn bus r₁
    on₁ = (goes_on_parts bus r₁ r₂ on₂).0

    -- a round of the contenders there are after a part of the run is one of those there were at first
    same_round : (calls more : List Call) → GoesOn bus calls → EachLooks (after_all bus calls) more
        → is_round (arbitration_of bus) (looks_in (after_all bus calls) more) ≡ true
    same_round calls more goes round =
        subst (λ (cards : ℕ). is_round (four_lines (λ n. card_in cards n)) (looks_in (after_all bus calls) more) ≡ true)
        (run_keeps calls bus here.phase goes).1
        round

    looks : List ℕ
    looks = flatten (in_four bus r₁ r₂ r₃ r₄ further) ++ in_rest bus r₁ r₂ r₃ r₄ further

    left : end ≡ after_looks_of bus looks
    left = run_looks all bus here.phase on ∙ ap (after_looks_of bus) (looks_of_five bus r₁ r₂ r₃ r₄ further)

    settles : (lines_of (after_looks_of bus looks) ≡ card) × (is_settled (after_looks_of bus looks) ≡ true)
    settles =
        four_rounds bus here.sense here.phase card best _ _ _ _ e₁ (same_round r₁ r₂ on₁ e₂) (same_round (r₁ ++ r₂) r₃ on₂ e₃)
        (same_round (r₁ ++ r₂ ++ r₃) r₄ on₃ e₄)
        (in_rest bus r₁ r₂ r₃ r₄ further)

    lines : lines_of end ≡ card
    lines = ap lines_of left ∙ settles.0

    still : is_settled end ≡ true
    still = ap is_settled left ∙ settles.1

-- ---- Settled lines

pub settled_bus_stays : SettledBusStays
settled_bus_stays bus here still calls on =
    run_looks calls bus here.phase on
    ∙ looks_drive bus here.phase (looks_in bus calls)
    ∙ ap (λ (levels : List ℕ). changed bus bus.phase bus.contenders levels bus.granted)
    (lines_stay (arbitration_of bus) bus.driven ((sense_means bus).0 here.sense).driving.sixteen_levels still (looks_in bus calls))

-- ---- Refused exactly if some contender is restless

module _ (bus : Bus) (here : Arbitrates bus) (memory ports : List ℕ) (right : Right memory ports) where
  sensible : Sensible bus
  sensible = (sense_means bus).0 here.sense

  -- a contender's look is accepted
  look_passes : (card : ℕ) → Contender (arbitration_of bus) card → refusal_on bus (call (look_by card) memory ports) ≡ 0
  unfolding beside has_beside
  look_passes card k =
      sound_call bus (look_by card) memory ports right (ap not here.sense)
      ∙ accepts bus (look_by card) (passes (le-ltb 0x10 card (omega (arith, below))) (sensible.contention.contenders_fitted card k.contending))
    where
      below : card < 16
      below = k.present

      passes : ltb 0x10 card ≡ false → card_in bus.fitted card ≡ true → Passed bus (look_by card)
      passes low fit = record {
        formed = rw low;
        names = refl;
        fitted = rw (fit, le-leb card 15 (le_of_suc-le-suc below));
        phase = rw here.phase;
        turn = ap not k.contending;
        settled = refl;
        even = refl;
        there = refl;
      }

  -- and leaves at its place what it looked
  look_leaves : (card : ℕ) → Contender (arbitration_of bus) card
      → get_or (bus_after bus (call (look_by card) memory ports)).driven card 0 ≡ looked (arbitration_of bus) bus.driven card
  unfolding looked
  look_leaves card k =
      let left = (look_does (machine bus memory ports) (look_by card) (refl, look_passes card k)).does.leaves in
      ap (λ (x : Machine). get_or x.bus.driven card 0) left
      ∙ get_or-set_same bus.driven card _ 0 (subst (λ (n : ℕ). card < n) (sym sensible.driving.sixteen_levels) k.present)

  -- from lines that are not settled to a contender that is restless
  restless : is_settled bus ≡ false → Restless bus memory ports
  unfolding settled every_contender
  restless moving =
      let found = some_not (λ q. not (card_in bus.contenders q) || stays q) 16 moving in
      let card : ℕ = found.0 in
      let each = neither_of (not (card_in bus.contenders card)) (stays card) found.1.1 in
      let k : Contender (arbitration_of bus) card = record { present = found.1.0; contending = not-false _ each.0 } in
      (card, (k, λ same. eqb-false _ _ each.1 (sym (look_leaves card k) ∙ same)))
    where
      stays : ℕ → Bool
      stays q = eqb (looked (arbitration_of bus) bus.driven q) (get_or bus.driven q 0)

  -- and back
  settled_rest : is_settled bus ≡ true → Restless bus memory ports → ⊥
  settled_rest still (card, (k, moves)) = moves (look_leaves card k ∙ settled_at (arbitration_of bus) bus.driven still card k)

pub acknowledge_refused : AcknowledgeRefused
acknowledge_refused bus here memory ports right = go (true_or_false (is_settled bus))
  where
    Refused : Type 0
    Refused = refusal_on bus (call right_acknowledge memory ports) ≡ Refusal.accepted → ⊥

    go : (is_settled bus ≡ true) ⊎ (is_settled bus ≡ false)
        → (Refused ↔ Restless bus memory ports) × (Refused → refusal_on bus (call right_acknowledge memory ports) ≡ Refusal.unsettled)
    go (inl still) =
        let ok = accepted_settled bus here memory ports right still in (
          (λ refused. absurd (refused ok), λ moves. absurd (settled_rest bus here memory ports right still moves)),
          λ refused. absurd (refused ok),
        )
    go (inr moving) =
        let eight : refusal_on bus (call right_acknowledge memory ports) ≡ Refusal.unsettled = acknowledge_refusal bus here memory ports right ∙ rw moving in (
          (λ refused. restless bus here memory ports right moving, λ moves ok. omega (arith, sym ok ∙ eight)),
          λ refused. eight,
        )
