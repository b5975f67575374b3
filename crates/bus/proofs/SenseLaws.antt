-- What a state that makes sense is, sentence by sentence, and that the test says so, clause by clause.
use Prim.Native.Nat.{ℕ, ◌<◌, ◌≤◌}
use mathlib.Core.Path.{◌≡◌, sym, subst, ap, ◌∙◌}
use mathlib.Core.Logic.{◌↔◌, ◌⊎◌, inl, inr}
use mathlib.Core.Bool.{Bool, true, false, cond, not, ◌&&◌, and-eq-true_iff, true≢false}
use mathlib.Core.List.{List}
use lib.Dec.{eqb, leb}
use lib.ListN.{length, get_or}
use borrow.Author.Tests.{leb-true, le-leb, eqb-true, eqb-false, eq-eqb, ne_eqb, not-true}
use Rattle.words.specs.Below.{all_below}
use Rattle.words.proofs.TestLaws.{true_or_false, both_of, all_three, then_chosen, else_chosen, choice_of}
use Rattle.words.proofs.BelowLaws.{all_at, all_of}
use Rattle.words.proofs.ListLaws.{every_at, every_of}
use Rattle.phases.specs.Phase as Phase
use Rattle.cards.specs.Cards.{card_in, some_card, is_within}
use Rattle.cards.proofs.CardLaws.{card_below, within_at, within_of, some_at, none_at, some_of, none_of}
use Rattle.bus.specs.State.{chassis_of, with_pages}
use Rattle.bus.specs.Sense.{pages_known, codes_known, chassis_fits, contention_fits, driving_fits, grant_fits, standing_fits, makes_sense}
use Rattle.bus.specs.Promises.{ChassisSensible, ContentionSensible, DrivingSensible, GrantSensible, Sensible, SenseMeans}
use Rattle.bus.specs.declared.state.Bus.{Bus}
use Rattle.bus.specs.declared.state.Chassis.{Chassis}

also : {a b : Bool} → a ≡ true → b ≡ true → (a && b) ≡ true
also {a} {b} e f = (and-eq-true_iff a b).1 (e, f)

-- ---- The chassis

pub codes_at : (pages : List ℕ) → pages_known pages ≡ true → (p : ℕ) → p < length pages → get_or pages p 0 ≤ 2
codes_at pages e p h = leb-true _ _ (every_at (λ code. leb code 2) pages e p h)

pub codes_of : (pages : List ℕ) → ((p : ℕ) → p < length pages → get_or pages p 0 ≤ 2) → pages_known pages ≡ true
codes_of pages each = every_of (λ code. leb code 2) pages (λ p h. le-leb _ _ (each p h))

-- an array has the right length
pub array_fits : (chassis : Chassis) → length chassis.pages ≡ 16 → chassis_fits chassis ≡ codes_known chassis
array_fits chassis size = rw (eq-eqb _ _ size)

pub chassis_means : (chassis : Chassis) → (chassis_fits chassis ≡ true) ↔ ChassisSensible chassis
chassis_means chassis = (from, to)
  where
    from : chassis_fits chassis ≡ true → ChassisSensible chassis
    from e =
        let both = both_of (eqb (length chassis.pages) 16) (codes_known chassis) e in
        let size : length chassis.pages ≡ 16 = eqb-true _ _ both.0 in
        record { sixteen_pages = size; codes = λ p h. codes_at chassis.pages both.1 p (subst (λ (n : ℕ). p < n) (sym size) h) }

    to : ChassisSensible chassis → chassis_fits chassis ≡ true
    to s =
        also (eq-eqb _ _ s.sixteen_pages)
        (codes_of chassis.pages (λ p h. s.codes p (subst (λ (n : ℕ). p < n) s.sixteen_pages h)))

-- ---- What the events change

contention_means : (bus : Bus) → (contention_fits bus ≡ true) ↔ ContentionSensible bus.fitted bus.phase bus.contenders
contention_means bus = (from, to)
  where
    arbitrates : Bool
    arbitrates = eqb bus.phase Phase.arbitration

    some : Bool
    some = some_card bus.contenders

    from : contention_fits bus ≡ true → ContentionSensible bus.fitted bus.phase bus.contenders
    from e =
        let both = both_of (is_within bus.contenders bus.fitted) (cond arbitrates some (not some)) e in record {
          contenders_fitted = within_at bus.contenders bus.fitted both.0;
          some_in_arbitration = λ a. some_at bus.contenders (then_chosen arbitrates some (not some) both.1 (eq-eqb _ _ a));
          none_elsewhere = λ a. none_at bus.contenders (not-true _ (else_chosen arbitrates some (not some) both.1 (ne_eqb _ _ a)));
        }

    to : ContentionSensible bus.fitted bus.phase bus.contenders → contention_fits bus ≡ true
    to s =
        also (within_of _ _ s.contenders_fitted)
        (choice_of arbitrates some (not some)
        (λ a. let found = s.some_in_arbitration (eqb-true _ _ a) in some_of bus.contenders found.0 found.1)
        (λ a. ap not (none_of bus.contenders (s.none_elsewhere (eqb-false _ _ a)))))

driving_means : (contenders : ℕ) (driven : List ℕ) → (driving_fits contenders driven ≡ true) ↔ DrivingSensible contenders driven
unfolding driving_fits
driving_means contenders driven = (from, to)
  where
    drives : ℕ → Bool
    drives n = cond (card_in contenders n) (leb (get_or driven n 0) 15) (eqb (get_or driven n 0) 0)

    from : driving_fits contenders driven ≡ true → DrivingSensible contenders driven
    from e =
        let both = both_of (eqb (length driven) 16) (all_below drives 16) e in record {
          sixteen_levels = eqb-true _ _ both.0;
          contender_drives = λ n c. leb-true _ _ (then_chosen (card_in contenders n) _ _ (all_at drives 16 both.1 n (card_below _ n c)) c);
          idle_drives = λ n h c. eqb-true _ _ (else_chosen (card_in contenders n) _ _ (all_at drives 16 both.1 n h) c);
        }

    to : DrivingSensible contenders driven → driving_fits contenders driven ≡ true
    to s =
        also (eq-eqb _ _ s.sixteen_levels)
        (all_of drives 16
        (λ n h. choice_of (card_in contenders n) _ _ (λ c. le-leb _ _ (s.contender_drives n c)) (λ c. eq-eqb _ _ (s.idle_drives n h c))))

-- an array has sixteen levels
pub levels_fit : (contenders : ℕ) (driven : List ℕ) → length driven ≡ 16
    → all_below (λ n. cond (card_in contenders n) (leb (get_or driven n 0) 15) (eqb (get_or driven n 0) 0)) 16 ≡ driving_fits contenders driven
unfolding driving_fits
levels_fit contenders driven size = rw (eq-eqb _ _ size)

-- "in one of a granted card's phases", as a test and in words
granted_from : (phase : ℕ) → Phase.granted ≤ phase → phase ≤ Phase.transfer_two → Phase.is_granted phase ≡ true
granted_from phase from to = also (le-leb _ _ from) (le-leb _ _ to)

granted_at : (phase : ℕ) → Phase.is_granted phase ≡ true → (Phase.granted ≤ phase) × (phase ≤ Phase.transfer_two)
granted_at phase e =
    let both = both_of (leb Phase.granted phase) (leb phase Phase.transfer_two) e in
    (leb-true _ _ both.0, leb-true _ _ both.1)

grant_means : (bus : Bus) → (grant_fits bus ≡ true) ↔ GrantSensible bus.fitted bus.phase bus.granted
grant_means bus = (from, to)
  where
    held : Bool
    held = Phase.is_granted bus.phase

    from : grant_fits bus ≡ true → GrantSensible bus.fitted bus.phase bus.granted
    from e = record {
      granted_fitted = λ low high. then_chosen held _ _ e (granted_from bus.phase low high);
      nobody_elsewhere = λ outside. eqb-true _ _ (else_chosen held _ _ e (elsewhere outside (true_or_false held)));
    }
      where
        elsewhere : (Phase.granted ≤ bus.phase → bus.phase ≤ Phase.transfer_two → ⊥) → (held ≡ true) ⊎ (held ≡ false) → held ≡ false
        elsewhere outside (inl t) = let both = granted_at bus.phase t in absurd (outside both.0 both.1)
        elsewhere outside (inr f) = f

    to : GrantSensible bus.fitted bus.phase bus.granted → grant_fits bus ≡ true
    to s =
        choice_of held _ _
        (λ t. let both = granted_at bus.phase t in s.granted_fitted both.0 both.1)
        (λ f. eq-eqb _ _ (s.nobody_elsewhere (λ low high. true≢false (sym (granted_from bus.phase low high) ∙ f))))

-- ---- All of it

-- arrays have the right length
pub sense_of_arrays : (bus : Bus) → length bus.pages ≡ 16 → (codes_known (chassis_of bus) && standing_fits bus) ≡ makes_sense bus
unfolding makes_sense
sense_of_arrays bus size = rw (eq-eqb _ _ size)

-- the pages have no part in the rest: two lists of pages of one length, both known or both not, make the same sense
pub sense_by_pages : (bus : Bus) (pages others : List ℕ) → length pages ≡ length others → pages_known pages ≡ pages_known others
    → makes_sense (with_pages bus pages) ≡ makes_sense (with_pages bus others)
unfolding makes_sense standing_fits
sense_by_pages bus pages others size known = rw (size, known)

sensible : (bus : Bus) → makes_sense bus ≡ true → Sensible bus
unfolding makes_sense standing_fits
sensible bus e =
    let halves = both_of (chassis_fits (chassis_of bus)) (standing_fits bus) e in
    let last =
    all_three (Phase.is_known bus.phase && contention_fits bus) (driving_fits bus.contenders bus.driven) (grant_fits bus) halves.1 in
    let first = both_of (Phase.is_known bus.phase) (contention_fits bus) last.0 in record {
      chassis = (chassis_means (chassis_of bus)).0 halves.0;
      phase_known = leb-true _ _ first.0;
      contention = (contention_means bus).0 first.1;
      driving = (driving_means bus.contenders bus.driven).0 last.1.0;
      grant = (grant_means bus).0 last.1.1;
    }

makes_sense_holds : (bus : Bus) → Sensible bus → makes_sense bus ≡ true
unfolding makes_sense standing_fits
makes_sense_holds bus s =
    also ((chassis_means (chassis_of bus)).1 s.chassis)
    (also
    (also (also (le-leb _ _ s.phase_known) ((contention_means bus).1 s.contention))
    ((driving_means bus.contenders bus.driven).1 s.driving))
    ((grant_means bus).1 s.grant))

pub sense_means : SenseMeans
sense_means bus = (sensible bus, makes_sense_holds bus)
