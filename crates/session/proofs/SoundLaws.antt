-- A sensible state, and memory and ports of the right lengths: every line keeps both.
use mathlib.Core.Path.{◌≡◌, refl, subst, ◌∙◌}
use mathlib.Core.Logic.{⊎_elim}
use mathlib.Core.Bool.{Bool, true, false, cond}
use mathlib.Core.List.{List}
use Prim.Native.Nat.{ℕ}
use native.Mathlib.Omega.{arith}
use lib.Dec.{eqb}
use lib.ListN.{length, drop, length-replicate, length-take, length-drop, length-map}
use borrow.Author.Tests.{eqb-true}
use Rattle.words.specs.Among.{every_listed}
use Rattle.words.proofs.TestLaws.{true_or_false, both_of}
use Rattle.bus.specs.Refusal.{accepted, bad_page}
use Rattle.bus.specs.State.{empty_chassis}
use Rattle.bus.specs.Sense.{codes_known, makes_sense}
use Rattle.bus.specs.Setup.{SetupAnswer, empty_bus}
use Rattle.bus.specs.declared.state.Bus.{Bus}
use Rattle.bus.proofs.SetUp.{setup_makes_sense}
use Rattle.judgement.specs.Refusals.{has_wrong_buffers}
use Rattle.events.specs.Machine.{Machine}
use Rattle.events.specs.Step.{after}
use Rattle.events.proofs.Stays.{lengths_kept, sense_kept_by_events}
use Rattle.text.specs.Digits.{is_digit, is_digits, value_of}
use Rattle.text.specs.Frames.{event_digits, event_in, setup_digits, setup_in, digits_from, pages_in, chassis_in}
use Rattle.text.proofs.FaultLaws.{some_fault}
use Rattle.session.specs.World.{World, turns, turns_by, set_up_by, after_event, machine_of, fresh_world}
use Rattle.session.specs.Promises.{StaysSound, FreshIsSound}
use Rattle.session.specs.declared.state.Stage.{Stage}
use Rattle.session.specs.declared.state.Stage.TheVariants.{Awaiting, Running, Ended}

pub record Sound (w : World) : Type 0 where
  pub sense : makes_sense w.session.bus ≡ true
  pub fit : has_wrong_buffers w.memory w.ports ≡ false

-- ---- Setup

empty_sense : makes_sense empty_bus ≡ true
empty_sense = subst (λ (bus : Bus). makes_sense bus ≡ true) (either (codes_known empty_chassis)) (setup_makes_sense empty_chassis refl)
  where
    -- an empty chassis comes with either answer
    either : (known : Bool)
        → (cond {A = SetupAnswer} known (record { answer = accepted; bus = empty_bus }) (record { answer = bad_page; bus = empty_bus })).bus ≡ empty_bus
    either true = refl
    either false = refl

set_up_sense : (line : List ℕ) → makes_sense (set_up_by (setup_in line)).bus ≡ true
set_up_sense line =
    ⊎_elim
    (λ (right : is_digits setup_digits line ≡ true).
    let size : length line ≡ setup_digits =
    eqb-true (length line) setup_digits (both_of (eqb (length line) setup_digits) (every_listed is_digit line) right).0 in
    let pages : length (pages_in line) ≡ 16 =
    length-map (digits_from 4 16 line) value_of ∙ omega (arith, length-take 16 (drop 4 line), length-drop 4 line, size) in
    rw right (setup_makes_sense (chassis_in line) pages))
    (λ (wrong : is_digits setup_digits line ≡ false). rw (wrong, some_fault setup_digits line wrong) empty_sense)
    (true_or_false (is_digits setup_digits line))

-- ---- Events

sense_after : (m : Machine) (line : List ℕ) → makes_sense m.bus ≡ true → makes_sense (after_event m line).bus ≡ true
sense_after m line sense =
    ⊎_elim (λ right. rw right (sense_kept_by_events m (event_in line) sense)) (λ wrong. rw wrong sense) (true_or_false (is_digits event_digits line))

fit_kept : (m p m' p' : List ℕ) → length m' ≡ length m → length p' ≡ length p → has_wrong_buffers m p ≡ false → has_wrong_buffers m' p' ≡ false
fit_kept m p m' p' em ep fit = rw (em, ep) fit

fit_after : (m : Machine) (line : List ℕ) → has_wrong_buffers m.memory m.ports ≡ false
    → has_wrong_buffers (after_event m line).memory (after_event m line).ports ≡ false
fit_after m line fit =
    ⊎_elim
    (λ right.
    let left = after m (event_in line) in
    let kept = lengths_kept m (event_in line) in
    rw right (fit_kept m.memory m.ports left.memory left.ports kept.0 kept.1 fit))
    (λ wrong. rw wrong fit)
    (true_or_false (is_digits event_digits line))

-- ---- Any line

pub stays_sound : StaysSound
unfolding turns_by
stays_sound w line sense fit = go w.session.stage refl
  where
    go : (stage : Stage) → w.session.stage ≡ stage
        → (makes_sense (turns w line).session.bus ≡ true) × (has_wrong_buffers (turns w line).memory (turns w line).ports ≡ false)
    go Awaiting e = rw e (set_up_sense line, fit)
    go Running e = rw e (sense_after (machine_of w) line sense, fit_after (machine_of w) line fit)
    go Ended e = rw e (sense, fit)

fit_by_lengths : (m p : List ℕ) → length m ≡ 0x10000 → length p ≡ 0x100 → has_wrong_buffers m p ≡ false
fit_by_lengths m p em ep = rw (em, ep) refl

pub fresh_is_sound : FreshIsSound
unfolding fresh_world
fresh_is_sound =
    (empty_sense, fit_by_lengths fresh_world.memory fresh_world.ports (length-replicate {A = ℕ} 0x10000 0) (length-replicate {A = ℕ} 0x100 0))

-- the same of a world as a whole
pub sound_turns : (w : World) (line : List ℕ) → Sound w → Sound (turns w line)
sound_turns w line s = let so = stays_sound w line s.sense s.fit in record { sense = so.0; fit = so.1 }

pub sound_fresh : Sound fresh_world
sound_fresh = record { sense = fresh_is_sound.0; fit = fresh_is_sound.1 }
