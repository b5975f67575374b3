-- What an accepted event leaves and answers, and what it has passed, for a kind that is known.
use Prim.Native.Nat.{ℕ, ◌≤◌}
use mathlib.Core.Path.{◌≡◌, subst, ap, ◌∙◌}
use mathlib.Core.Bool.{Bool, true, false, not, ◌||◌}
use mathlib.Core.List.{List}
use lib.Dec.{ltb}
use borrow.Author.Tests.{not-false, ltb-false}
use Rattle.words.proofs.TestLaws.{neither_of}
use Rattle.phases.specs.Status.{status_of}
use Rattle.memory.specs.Moved.{Moved}
use Rattle.memory.specs.declared.Slave.{Slave}
use Rattle.bus.specs.Sense.{makes_sense}
use Rattle.bus.specs.Promises.{Sensible}
use Rattle.bus.specs.declared.state.Bus.{Bus}
use Rattle.bus.proofs.SenseLaws.{sense_means}
use Rattle.judgement.specs.Table.{permanent_master, has_turn, has_row, row_of, most_datum}
use Rattle.judgement.specs.Refusals.{has_wrong_buffers, has_stray_field, is_too_wide}
use Rattle.judgement.specs.Judge.{sound_refusal}
use Rattle.judgement.specs.declared.event.Event.{Event}
use Rattle.judgement.proofs.Passed.{Passed, passed, accepted_call}
use Rattle.events.specs.Machine.{Machine, machine}
use Rattle.events.specs.Cycles.{slave_at, moved_by, memory_left, ports_left}
use Rattle.events.specs.Answers.{answer_with, signals_with}
use Rattle.events.specs.Step.{bus_by, taken_by, answer_by, refusal_in, after, answer_to}
use Rattle.events.specs.Promises.{Does}

-- machines are the same where their parts are
parts : {b c : Bus} {x y p q : List ℕ} → b ≡ c → x ≡ y → p ≡ q → machine b x p ≡ machine c y q
parts {b} {c} {x} {y} {p} {q} e f g = ap (λ (k : Bus). machine k x p) e ∙ ap (λ (k : List ℕ). machine c k p) f ∙ ap (machine c y) g

module _ (m : Machine) (event : Event) (ok : refusal_in m event ≡ 0) where
  pub leaves_taken : after m event ≡ taken_by (row_of event.kind).step m event
  unfolding after
  leaves_taken = rw ok

  pub answers_taken : answer_to m event ≡ answer_by (row_of event.kind).step m event
  unfolding answer_to
  answers_taken = rw ok

  calls : (has_wrong_buffers m.memory m.ports ≡ false) × ((not (makes_sense m.bus) ≡ false) × (sound_refusal m.bus event ≡ 0))
  calls = accepted_call m.bus event m.memory m.ports ok

  pub right_buffers : has_wrong_buffers m.memory m.ports ≡ false
  right_buffers = calls.0

  pub in_sense : Sensible m.bus
  in_sense = (sense_means m.bus).0 (not-false _ calls.1.0)

  pub has_passed : Passed m.bus event
  has_passed = passed m.bus event calls.1.1

  -- the parts of 03: a kind that has a row, a speaker that there is, no field that isn't listed, and no more than is listed in the datum
  pub record Formed : Type 0 where
    pub kind : has_row event.kind ≡ true
    pub speaker : ltb permanent_master event.speaker ≡ false
    pub no_stray : has_stray_field event ≡ false
    pub datum : event.datum ≤ most_datum event.kind

  pub is_formed : Formed
  is_formed =
      let no_row_holds : Bool = not (has_row event.kind) in
      let nobody : Bool = ltb permanent_master event.speaker in
      let wide = neither_of (no_row_holds || nobody || has_stray_field event) (is_too_wide event) has_passed.formed in
      let stray = neither_of (no_row_holds || nobody) (has_stray_field event) wide.0 in
      let first = neither_of no_row_holds nobody stray.0 in
      record { kind = not-false _ first.0; speaker = first.1; no_stray = stray.1; datum = ltb-false _ _ wide.1 }

  -- the phase, and the speaker, of a kind that is known
  pub phase_allows : (k : ℕ) → event.kind ≡ k → (row_of k).allows m.bus.phase ≡ true
  phase_allows k e = not-false _ (subst (λ (q : ℕ). not ((row_of q).allows m.bus.phase) ≡ false) e has_passed.phase)

  pub speaker_has_turn : (k : ℕ) → event.kind ≡ k → has_turn (row_of k).speaker m.bus event.speaker ≡ true
  speaker_has_turn k e =
      not-false _ (subst (λ (q : ℕ). not (has_turn (row_of q).speaker m.bus event.speaker) ≡ false) e has_passed.turn)

  -- from what the kind's step makes of the bus, and what it moves
  pub does : (k : ℕ) → event.kind ≡ k → (bus : Bus) → bus_by (row_of k).step m.bus event ≡ bus → (memory ports : List ℕ)
      → memory_left (slave_at m.bus.pages event.address) event m.memory ≡ memory → ports_left event m.ports ≡ ports → (moved : Moved)
      → moved_by (slave_at m.bus.pages event.address) event m.memory m.ports ≡ moved
      → Does m event (machine bus memory ports) (signals_with bus.phase k (slave_at m.bus.pages event.address)) (status_of k) moved
  does k e bus step memory ports kept left moved moves = record {
    leaves = leaves_taken ∙ parts steps kept left;
    answers =
        answers_taken
        ∙ ap (λ (b : Bus). answer_with 0 b (signals_with b.phase event.kind there) (status_of event.kind) moves_as) steps
        ∙ ap (λ (q : ℕ). answer_with 0 bus (signals_with bus.phase q there) (status_of q) moves_as) e
        ∙ ap (answer_with 0 bus (signals_with bus.phase k there) (status_of k)) moves;
  }
    where
      there : Slave
      there = slave_at m.bus.pages event.address

      moves_as : Moved
      moves_as = moved_by there event m.memory m.ports

      steps : bus_by (row_of event.kind).step m.bus event ≡ bus
      steps = ap (λ (q : ℕ). bus_by (row_of q).step m.bus event) e ∙ step
