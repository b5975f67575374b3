-- The four lines on this state: what looks leave, four rounds, settled levels, and the grant.
use Prim.Native.Nat.{ℕ, ◌<◌, ◌≤◌}
use mathlib.Core.Path.{◌≡◌, refl, sym, subst, ap, ◌∙◌}
use mathlib.Core.Logic.{◌⊎◌, inl, inr}
use mathlib.Core.Bool.{Bool, true, false, cond}
use mathlib.Core.List.{List, [], ◌∷◌, ◌++◌, flatten}
use native.Mathlib.Decide.{dec_lt}
use native.Mathlib.Omega.{arith}
use lib.Dec.{eqb}
use lib.ListN.{length, get_or, set, get_or-eq_default}
use borrow.Author.Tests.{eq-eqb, ne_eqb}
use Rattle.words.proofs.TestLaws.{true_or_false, all_three}
use Rattle.lines.specs.Arbitration.{four_lines, Contender, Highest, settled, looked, after_look, after_looks}
use Rattle.lines.specs.Promises.{SettledAt}
use Rattle.lines.proofs.HighestLaws.{highest_exists}
use Rattle.lines.proofs.Settling.{settled_show_highest}
use Rattle.lines.proofs.Unique.{settled_list_unique}
use Rattle.lines.proofs.NumberedCards.{by_number_holds}
use Rattle.lines.proofs.FourLines.{four_rounds_settle, four_highest_unique}
use Rattle.phases.specs.Phase as Phase
use Rattle.cards.specs.Cards.{card_in, some_card}
use Rattle.bus.specs.State.{changed, silent, arbitration_of, lines_of, is_settled}
use Rattle.bus.specs.Steps.{looked_by, after_looks_of, may_acknowledge, acknowledged}
use Rattle.bus.specs.Promises.{
  DrivingSensible,
  LooksDrive,
  LooksElsewhere,
  HighestThere,
  FourRounds,
  SettledOneWay,
  SettledShowIt,
  GrantsHighest,
  GrantsSettled,
}
use Rattle.bus.specs.declared.state.Bus.{Bus}
use Rattle.cards.proofs.CardLaws.{card_below, some_at, some_of}
use Rattle.bus.proofs.SenseLaws.{sense_means}

-- ---- Looks

-- in arbitration a look does what the lines have it do, also where the card doesn't contend and nothing changes
pub looked_by_holds : (bus : Bus) → bus.phase ≡ Phase.arbitration → (card : ℕ)
    → looked_by bus card ≡ changed bus bus.phase bus.contenders (after_look (arbitration_of bus) bus.driven card) bus.granted
unfolding after_look
looked_by_holds bus a card = rw (eq-eqb _ _ a) (go (card_in bus.contenders card))
  where
    new : List ℕ
    new = set bus.driven card (looked (arbitration_of bus) bus.driven card)

    go : (b : Bool) → cond b (changed bus bus.phase bus.contenders new bus.granted) bus
        ≡ changed bus bus.phase bus.contenders (cond b new bus.driven) bus.granted
    go true = refl
    go false = refl

pub looks_drive : LooksDrive
unfolding after_looks_of after_looks
looks_drive bus a [] = refl
looks_drive bus a (card ∷ cards) =
    ap (λ (b : Bus). after_looks_of b cards) (looked_by_holds bus a card)
    ∙ looks_drive (changed bus bus.phase bus.contenders (after_look (arbitration_of bus) bus.driven card) bus.granted) a cards

pub looks_elsewhere : LooksElsewhere
unfolding after_looks_of
looks_elsewhere bus other [] = refl
looks_elsewhere bus other (card ∷ cards) =
    let same : looked_by bus card ≡ bus = rw (ne_eqb _ _ other) in
    ap (λ (b : Bus). after_looks_of b cards) same ∙ looks_elsewhere bus other cards

-- ---- The highest contender, and four rounds

-- a card in the set of contenders is a contender
pub contender_of : (bus : Bus) (n : ℕ) → card_in bus.contenders n ≡ true → Contender (arbitration_of bus) n
contender_of bus n c = record { present = card_below bus.contenders n c; contending = c }

pub highest_there : HighestThere
highest_there bus e a =
    let one = ((sense_means bus).0 e).contention.some_in_arbitration a in
    let best = highest_exists (arbitration_of bus) one.0 (contender_of bus one.0 one.1) in
    (best.0, (best.1, λ n other. four_highest_unique (λ q. card_in bus.contenders q) n best.0 other best.1))

pub four_rounds : FourRounds
four_rounds bus e a m best r₁ r₂ r₃ r₄ e₁ e₂ e₃ e₄ further =
    (ap lines_of (looks_drive bus a looks) ∙ settles.shows, ap is_settled (looks_drive bus a looks) ∙ settles.still)
  where
    looks : List ℕ
    looks = flatten (r₁ ∷ r₂ ∷ r₃ ∷ r₄ ∷ []) ++ further

    s : DrivingSensible bus.contenders bus.driven
    s = ((sense_means bus).0 e).driving

    settles : SettledAt (arbitration_of bus) (after_looks (arbitration_of bus) bus.driven looks) m
    settles =
        four_rounds_settle (λ q. card_in bus.contenders q) m best bus.driven s.sixteen_levels (λ q h c. s.contender_drives q c) r₁ r₂ r₃ r₄ e₁ e₂ e₃ e₄
        further

-- ---- The grant

-- settled lines show the highest contender, if anyone contends
pub settled_highest : (bus : Bus) → some_card bus.contenders ≡ true → is_settled bus ≡ true → Highest (arbitration_of bus) (lines_of bus)
settled_highest bus some still =
    let one = some_at bus.contenders some in
    let best = highest_exists (arbitration_of bus) one.0 (contender_of bus one.0 one.1) in
    subst (Highest (arbitration_of bus))
    (sym (settled_show_highest (arbitration_of bus) (by_number_holds 4 (λ q. card_in bus.contenders q)).0 best.0 best.1 bus.driven still))
    best.1

pub settled_show_it : SettledShowIt
settled_show_it bus e a = let one = ((sense_means bus).0 e).contention.some_in_arbitration a in settled_highest bus (some_of bus.contenders one.0 one.1)

acknowledge_taken : (bus : Bus) → may_acknowledge bus ≡ true → acknowledged bus ≡ changed bus Phase.granted 0 silent (lines_of bus)
acknowledge_taken bus may = rw may

acknowledge_left : (bus : Bus) → may_acknowledge bus ≡ false → acknowledged bus ≡ bus
acknowledge_left bus may = rw may

pub grants_highest : GrantsHighest
grants_highest bus steps = go (true_or_false (may_acknowledge bus))
  where
    go : (may_acknowledge bus ≡ true) ⊎ (may_acknowledge bus ≡ false)
        → Highest (arbitration_of bus) (acknowledged bus).granted × (acknowledged bus ≡ changed bus Phase.granted 0 silent (acknowledged bus).granted)
    go (inl may) =
        let parts = all_three (eqb bus.phase Phase.arbitration) (some_card bus.contenders) (is_settled bus) may in
        rw (acknowledge_taken bus may) (settled_highest bus parts.1.0 parts.1.1, refl)
    go (inr may) = absurd (steps (ap (λ (b : Bus). b.phase) (acknowledge_left bus may)))

pub grants_settled : GrantsSettled
grants_settled bus e a =
    let one = ((sense_means bus).0 e).contention.some_in_arbitration a in
    let some = some_of bus.contenders one.0 one.1 in (
      λ still. ap (λ (b : Bus). b.phase) (acknowledge_taken bus (rw (eq-eqb _ _ a, some) still)),
      λ moving. acknowledge_left bus (rw (eq-eqb _ _ a, some) moving),
    )

-- ---- Settled levels are unique

pub settled_one_way : SettledOneWay
settled_one_way bus other e f same still stilled =
    settled_list_unique (arbitration_of bus) (by_number_holds 4 (λ q. card_in bus.contenders q)).0 bus.driven other.driven s.sixteen_levels
    t.sixteen_levels
    (λ q c. idle q c (dec_lt q 16))
    still
    (subst (λ (cards : ℕ). settled (four_lines (λ q. card_in cards q)) other.driven ≡ true) (sym same) stilled)
  where
    s : DrivingSensible bus.contenders bus.driven
    s = ((sense_means bus).0 e).driving

    t : DrivingSensible other.contenders other.driven
    t = ((sense_means other).0 f).driving

    idle : (q : ℕ) → card_in bus.contenders q ≡ false → Dec (q < 16) → get_or bus.driven q 0 ≡ get_or other.driven q 0
    idle q c (yes h) = s.idle_drives q h c ∙ sym (t.idle_drives q h (ap (λ (cards : ℕ). card_in cards q) (sym same) ∙ c))
    idle q c (no h) =
        let here : length bus.driven ≤ q = omega (arith, s.sixteen_levels) in
        let there : length other.driven ≤ q = omega (arith, t.sixteen_levels) in
        get_or-eq_default bus.driven 0 here ∙ sym (get_or-eq_default other.driven 0 there)
