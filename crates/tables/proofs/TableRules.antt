-- The rule of each table, computed over all that a byte can say: its entries, and beyond them. Then what a byte's masks say of its signals.
use Prim.Native.Nat.{ℕ, suc, ◌+◌, ◌<◌, ◌≤◌}
use mathlib.Core.Path.{◌≡◌, refl, sym, ap, ◌∙◌}
use mathlib.Core.Bool.{Bool, true, false, cond, not}
use mathlib.Core.List.{List}
use mathlib.Core.Logic.{◌⊎◌, inl, inr}
use native.Mathlib.Omega.{arith}
use lib.Dec.{lit≤, leb, ltb}
use lib.ListN.{length, get_or, get_or-eq_default}
use borrow.Author.Tests.{leb-true, ltb-true, ltb-false, eqb-true}
use Rattle.words.proofs.TestLaws.{true_or_false}
use Rattle.std.specs.Prelude.{◌≢◌, bit_and, nat_eq}
use Rattle.words.specs.Below.{all_below}
use Rattle.words.specs.Among.{is_among, beside}
use Rattle.words.proofs.BelowLaws.{same_below, same_tests_below, same_in_rows, none_beyond, all_at}
use Rattle.phases.specs.Phase as Phase
use Rattle.phases.specs.Kind as Kind
use Rattle.phases.specs.Signal.{pHLDA, is_on, signals_in}
use Rattle.phases.specs.Driver.{drivers_in, driver_of}
use Rattle.phases.specs.Drivers.{number_of_driver}
use Rattle.phases.specs.declared.drivers.Driver.{Driver}
use Rattle.phases.specs.Status.{sOUT, status_of}
use Rattle.phases.specs.Control.{pWR, is_reading, is_writing, strobe_of}
use Rattle.tables.specs.declared.tables.TheConstants.{PHASES, KINDS, NO_PHASE, NO_CYCLE}

-- who drives, by the code's table
abbrev pub drivers : ℕ → List Driver
drivers phase = (get_or PHASES phase NO_PHASE).drivers

pub driver_entry : (phase group : ℕ) → phase < 256 → number_of_driver (get_or (drivers phase) group Driver.Nobody) ≡ driver_of phase group
unfolding all_below beside drivers_in
driver_entry phase group h = either (true_or_false (ltb group 4))
  where
    four : length (drivers phase) ≡ 4
    four = same_below (λ p. length (drivers p)) (λ p. 4) 256 refl phase h

    at_most_four : length (drivers_in phase) ≤ 4
    at_most_four = leb-true _ _ (all_at (λ p. leb (length (drivers_in p)) 4) 256 refl phase h)

    either : (ltb group 4 ≡ true) ⊎ (ltb group 4 ≡ false) → number_of_driver (get_or (drivers phase) group Driver.Nobody) ≡ driver_of phase group
    either (inl within) =
        same_in_rows (λ p g. number_of_driver (get_or (drivers p) g Driver.Nobody)) driver_of 256 4 refl phase group h (ltb-true group 4 within)
    either (inr beyond) =
        let high = ltb-false group 4 beyond in
        ap number_of_driver (get_or-eq_default (drivers phase) Driver.Nobody (omega (arith, high, four)))
        ∙ sym (get_or-eq_default (drivers_in phase) 0 (omega (arith, high, at_most_four)))

-- a row has four entries, and there is a row for each phase
pub driver_no_group : (phase group : ℕ) → phase ≤ Phase.last → 4 ≤ group → 0 ≡ driver_of phase group
unfolding all_below beside drivers_in
driver_no_group phase group h g = sym (get_or-eq_default (drivers_in phase) 0 (omega (arith, four)))
  where
    four : length (drivers_in phase) ≡ 4
    four = same_below (λ p. length (drivers_in p)) (λ p. 4) (suc Phase.last) refl phase (omega (arith, h))

pub driver_no_phase : (phase group : ℕ) → Phase.last < phase → phase < 256 → 0 ≡ driver_of phase group
unfolding all_below beside drivers_in
driver_no_phase phase group h l = sym (get_or-eq_default (drivers_in phase) 0 (omega (arith, none)))
  where
    none : 0 ≡ length (drivers_in phase)
    none = none_beyond (λ p. length (drivers_in p)) (suc Phase.last) 256 refl phase h (omega (arith, l))

pub signals_entry : (phase : ℕ) → phase < 256 → (get_or PHASES phase NO_PHASE).signals ≡ signals_in phase
unfolding all_below beside signals_in
signals_entry phase h = same_below (λ p. (get_or PHASES p NO_PHASE).signals) signals_in 256 refl phase h

pub signals_beyond : (phase : ℕ) → Phase.last < phase → phase < 256 → 0 ≡ signals_in phase
unfolding all_below beside signals_in
signals_beyond phase h l = none_beyond signals_in (suc Phase.last) 256 refl phase h (omega (arith, l))

pub status_entry : (kind : ℕ) → kind < 256 → (get_or KINDS kind NO_CYCLE).status ≡ status_of kind
unfolding all_below beside status_of
status_entry kind h = same_below (λ k. (get_or KINDS k NO_CYCLE).status) status_of 256 refl kind h

pub status_beyond : (kind : ℕ) → Kind.output < kind → kind < 256 → 0 ≡ status_of kind
unfolding all_below beside status_of
status_beyond kind h l = none_beyond status_of (suc Kind.output) 256 refl kind h (omega (arith, l))

pub strobe_entry : (kind : ℕ) → kind < 256 → (get_or KINDS kind NO_CYCLE).strobe ≡ strobe_of kind
unfolding all_below is_among strobe_of
strobe_entry kind h = same_below (λ k. (get_or KINDS k NO_CYCLE).strobe) strobe_of 256 refl kind h

pub strobe_beyond : (kind : ℕ) → Kind.output < kind → kind < 256 → 0 ≡ strobe_of kind
unfolding all_below is_among strobe_of
strobe_beyond kind h l = none_beyond strobe_of (suc Kind.output) 256 refl kind h (omega (arith, l))

-- ---- Masks

pub masks_hold_acknowledge : (signals : ℕ) → signals < 256 → bit_and signals pHLDA ≡ cond (is_on pHLDA signals) pHLDA 0
unfolding all_below
masks_hold_acknowledge signals h = same_below (λ s. bit_and s pHLDA) (λ s. cond (is_on pHLDA s) pHLDA 0) 256 refl signals h

pub masks_write : (control : ℕ) → control < 256 → nat_eq (bit_and control pWR) 0 ≡ not (is_on pWR control)
unfolding all_below
masks_write control h = same_tests_below (λ c. nat_eq (bit_and c pWR) 0) (λ c. not (is_on pWR c)) 256 refl control h

-- where the mask leaves something, the strobe is true
pub write_on : (control : ℕ) → control < 256 → bit_and control pWR ≢ 0 → is_on pWR control ≡ true
write_on control h left = go (is_on pWR control) (masks_write control h)
  where
    go : (b : Bool) → nat_eq (bit_and control pWR) 0 ≡ not b → b ≡ true
    go true e = refl
    go false e = absurd (left (eqb-true _ _ e))

pub masks_output : (status : ℕ) → status < 256 → nat_eq (bit_and status sOUT) 0 ≡ not (is_on sOUT status)
unfolding all_below
masks_output status h = same_tests_below (λ s. nat_eq (bit_and s sOUT) 0) (λ s. not (is_on sOUT s)) 256 refl status h

-- a strobe and pHLDA together fit a byte
pub control_fits : (phase kind : ℕ) → cond (Phase.has_cycles phase) (strobe_of kind) 0 + cond (is_on pHLDA (signals_in phase)) pHLDA 0 < 256
unfolding strobe_of
control_fits phase kind =
    omega (
      arith,
      at_most (Phase.has_cycles phase) (strobe_of kind) 0 strobe_most (lit≤ tt),
      at_most (is_on pHLDA (signals_in phase)) pHLDA 0 (lit≤ tt) (lit≤ tt),
    )
  where
    at_most : (b : Bool) (x y : ℕ) → x ≤ 16 → y ≤ 16 → cond b x y ≤ 16
    at_most true x y hx hy = hx
    at_most false x y hx hy = hy

    strobe_most : strobe_of kind ≤ 16
    strobe_most = at_most (is_reading kind) 8 _ (lit≤ tt) (at_most (is_writing kind) 16 0 (lit≤ tt) (lit≤ tt))
