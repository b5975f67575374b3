-- Lines of a session taken one after another: the loop's invariant, and what a turn makes of it.
use mathlib.Core.Path.{◌≡◌, refl, sym, ap, ◌∙◌}
use mathlib.Core.Logic.{◌⊎◌, ⊎_elim}
use mathlib.Core.Bool.{Bool, true, false}
use mathlib.Core.List.{List, []}
use Prim.Native.Nat.{ℕ, zero, suc, ◌+◌, ◌-◌, ◌<◌, ◌≤◌}
use native.Mathlib.Omega.{arith}
use lib.ListN.{length, drop, length-drop}
use borrow.Rule.Slice.PartMut.{mid_of, put_mid}
use Rattle.words.proofs.TestLaws.{true_or_false}
use Rattle.bus.specs.declared.state.Bus.{Bus}
use Rattle.events.specs.Machine.{Machine}
use Rattle.events.specs.Step.{answer_to}
use Rattle.text.specs.Digits.{is_digits}
use Rattle.text.specs.Faults.{fault_of}
use Rattle.text.specs.Frames.{event_digits, event_in, setup_in}
use Rattle.text.specs.Newlines.{has_newline, first_line}
use Rattle.text.specs.OutcomeLine.{outcomes_length}
use Rattle.text.specs.Reading.{line_off}
use Rattle.text.proofs.ReadingLaws.{answer_long}
use Rattle.text.proofs.TakingLaws.{Going, Gone, going_start, going_on, gone_unended, gone_full, some_line, no_line, line_used, part_behind, home}
use Rattle.text.proofs.OutcomeLines.{outcomes_long}
use Rattle.pins.proofs.DigitLaws.{pictures_fit}
use Rattle.session.specs.World.{World, world, outcomes_left, closing, says_by, says}
use Rattle.session.specs.World.{most_said, answering, event_said, machine_of, setup_answer, set_up_by, fault_answer}
use Rattle.session.specs.Feeding.{takes, takes_first, told}
use Rattle.session.specs.Promises.{SaysAtMost}
use Rattle.session.specs.declared.state.Stage.{Stage}
use Rattle.session.specs.declared.state.Stage.TheVariants.{Awaiting, Running, Ended}
use Rattle.session.specs.declared.state.Session.{Session}
use Rattle.session.specs.declared.state.Wanted.{Wanted}
use Rattle.session.specs.declared.state.Wanted.TheVariants.{Answers, Pictures, Outcomes}
use Rattle.session.specs.declared.calls.TakenLines.{TakenLines}
use Rattle.session.proofs.LineLaws.{TakenAs}
use Rattle.session.proofs.SoundLaws.{Sound, sound_turns}

-- whatever is wanted, a line may take some room
pub some_said : (wanted : Wanted) → 0 < most_said wanted
some_said Answers = omega arith
some_said Pictures = omega arith
some_said Outcomes = omega arith

-- an event's line has an answer or, at most, two pictures
event_at_most : (wanted : Wanted) (m : Machine) (line : List ℕ) → length (event_said wanted m line) ≤ most_said wanted
event_at_most wanted m line = go wanted (is_digits event_digits line) refl
  where
    go : (wanted : Wanted) (right : Bool) → is_digits event_digits line ≡ right → length (event_said wanted m line) ≤ most_said wanted
    go Answers true e = rw e (omega (arith, answer_long (answer_to m (event_in line))))
    go Answers false e = rw e (omega (arith, answer_long (fault_answer (fault_of event_digits line))))
    go Pictures true e = rw e (pictures_fit (event_in line) (answer_to m (event_in line)))
    go Pictures false e = rw e (omega arith)
    go Outcomes true e = rw e (omega arith)
    go Outcomes false e = rw e (omega arith)

pub event_answered : (m : Machine) (line : List ℕ) → 0 < length (event_said Answers m line)
event_answered m line =
    ⊎_elim
    (λ right. rw right (omega (arith, answer_long (answer_to m (event_in line)))))
    (λ wrong. rw wrong (omega (arith, answer_long (fault_answer (fault_of event_digits line)))))
    (true_or_false (is_digits event_digits line))

-- for a line no more is written than the most
pub line_at_most : (wanted : Wanted) (w : World) (line : List ℕ) → length (says wanted w line) ≤ most_said wanted
unfolding says_by
line_at_most wanted w line = go w.session.stage refl wanted
  where
    go : (stage : Stage) → w.session.stage ≡ stage → (wanted : Wanted) → length (says wanted w line) ≤ most_said wanted
    go Awaiting e Answers = rw e (omega (arith, answer_long (setup_answer (setup_in line).fault (set_up_by (setup_in line)))))
    go Awaiting e Pictures = rw e (omega arith)
    go Awaiting e Outcomes = rw e (omega arith)
    go Running e wanted = rw e (event_at_most wanted (machine_of w) line)
    go Ended e wanted = rw e (omega arith)

-- nor at the end
left_at_most : (stage : Stage) (bus : Bus) → length (outcomes_left stage bus) ≤ outcomes_length
unfolding outcomes_left
left_at_most Awaiting bus = omega arith
left_at_most Running bus = omega (arith, outcomes_long bus 16)
left_at_most Ended bus = omega (arith, outcomes_long bus 16)

pub closing_at_most : (wanted : Wanted) (session : Session) → length (closing wanted session) ≤ most_said wanted
closing_at_most Answers session = omega arith
closing_at_most Pictures session = omega arith
closing_at_most Outcomes session = left_at_most session.stage session.bus

pub says_at_most : SaysAtMost
says_at_most wanted w = (line_at_most wanted w, closing_at_most wanted w.session)

positive : (n : ℕ) → (n ≡ 0 → ⊥) → 0 < n
positive zero some = absurd (some refl)
positive (suc n) some = omega arith

module _ (wanted : Wanted) where
  pub record Turning (text out₀ : List ℕ) (w₀ : World) (out m p : List ℕ) (stage : Stage) (bus : Bus) (rest : List ℕ) (used written : ℕ) : Type 0 where
    pub going : Going (answering wanted) out₀ (takes wanted (length out₀) w₀ text) out (world stage bus m p) rest used written
    pub within : used + length rest ≡ length text
    pub memory : length m ≡ length w₀.memory
    pub ports : length p ≡ length w₀.ports
    pub sound : Sound (world stage bus m p)

  pub turning_start : (text out m p : List ℕ) (stage : Stage) (bus : Bus) → Sound (world stage bus m p)
      → Turning text out (world stage bus m p) out m p stage bus text 0 0
  turning_start text out m p stage bus sound = record {
    going = going_start (answering wanted) out text (world stage bus m p);
    within = omega arith;
    memory = refl;
    ports = refl;
    sound = sound;
  }

  -- ---- At the end

  returned : (text out₀ : List ℕ) (w₀ : World) (out m p : List ℕ) (stage : Stage) (bus : Bus) (used written : ℕ)
      → Gone (answering wanted) out₀ (takes wanted (length out₀) w₀ text) out (world stage bus m p) used written
      → TakenAs (takes wanted (length out₀) w₀ text) out₀ (told stage bus used written) out m p
  returned text out₀ w₀ out m p stage bus used written g =
      let t = takes wanted (length out₀) w₀ text in (
        ap (λ (w : World). lines w used written) g.state
            ∙ ap (λ (k : ℕ). lines t.state k written) g.bytes
            ∙ ap (λ (k : ℕ). lines t.state t.used k) g.count,
        (g.put, (ap (λ (w : World). w.memory) g.state, ap (λ (w : World). w.ports) g.state)),
      )
    where
      lines : World → ℕ → ℕ → TakenLines
      lines w u k = record { session = w.session; used = u; written = k }

  module _ {text out₀ : List ℕ} {w₀ : World} {out m p : List ℕ} {stage : Stage} {bus : Bus} {rest : List ℕ} {used written : ℕ}
      (t : Turning text out₀ w₀ out m p stage bus rest used written) where
    pub returned_full : length out - written < (most_said wanted)
        → TakenAs (takes wanted (length out₀) w₀ text) out₀ (told stage bus used written) out m p
    returned_full full =
        returned text out₀ w₀ out m p stage bus used written
        (gone_full (answering wanted) out₀ (takes wanted (length out₀) w₀ text) out (world stage bus m p) rest used written t.going full)

    pub room_behind : (most_said wanted) ≤ length out - written → (most_said wanted) ≤ length (mid_of written (length out - written) out)
    room_behind fits = omega (arith, fits, ap length (part_behind out written), length-drop written out)

    -- ---- One turn, by what take_line told and left

    module _ (line : TakenLines) (part' m' p' : List ℕ)
        (line_told : TakenAs (takes_first wanted (world stage bus m p) rest) (mid_of written (length out - written) out) line part' m' p') where
      used_is : line.used ≡ (takes_first wanted (world stage bus m p) rest).used
      used_is = ap (λ (l : TakenLines). l.used) line_told.0

      pub size_within : line.used ≤ length rest
      size_within = omega (arith, used_is, line_used (answering wanted) (world stage bus m p) rest)

      pub written_most : line.written ≤ (most_said wanted)
      written_most =
          omega (arith, ap (λ (l : TakenLines). l.written) line_told.0, said_most (true_or_false (has_newline rest)))
        where
          said_most : (has_newline rest ≡ true) ⊎ (has_newline rest ≡ false) → length (takes_first wanted (world stage bus m p) rest).said ≤ (most_said wanted)
          said_most = ⊎_elim (λ has. rw has (line_at_most wanted (world stage bus m p) (first_line rest))) (λ none. rw none (omega arith))

      pub rest_less : (line.used ≡ 0 → ⊥) → length (mid_of line.used (length rest - line.used) rest) < length rest
      rest_less some =
          omega (arith, size_within, positive line.used some, ap length (part_behind rest line.used), length-drop line.used rest)

      -- a line was taken: the loop goes on behind it
      going_next : (has : has_newline rest ≡ true) → (most_said wanted) ≤ length out - written
          → Going (answering wanted) out₀ (takes wanted (length out₀) w₀ text) (put_mid written (length out - written) out part')
          (world line.session.stage line.session.bus m' p') (drop line.used rest) (used + line.used) (written + line.written)
      going_next has fits =
          let w = world stage bus m p in
          let so : TakenAs (line_off (answering wanted) w rest) (mid_of written (length out - written) out) line part' m' p' = rw has at line_told in
          rw (so.0, so.1.0, so.1.1.0, so.1.1.1) (
          going_on (answering wanted) out₀ (takes wanted (length out₀) w₀ text) out w rest used written t.going fits
          (line_at_most wanted w (first_line rest)) has)

      sound_next : has_newline rest ≡ true → Sound (world line.session.stage line.session.bus m' p')
      sound_next has =
          let w = world stage bus m p in
          let so : TakenAs (line_off (answering wanted) w rest) (mid_of written (length out - written) out) line part' m' p' = rw has at line_told in
          rw (so.0, so.1.1.0, so.1.1.1) (sound_turns w (first_line rest) t.sound)

      pub turning_next : length m' ≡ length m → length p' ≡ length p → (most_said wanted) ≤ length out - written → (line.used ≡ 0 → ⊥)
          → Turning text out₀ w₀ (put_mid written (length out - written) out part') m' p' line.session.stage line.session.bus
          (mid_of line.used (length rest - line.used) rest) (used + line.used) (written + line.written)
      turning_next m_long p_long fits some =
          let has = some_line (answering wanted) (world stage bus m p) rest (λ e. some (used_is ∙ e)) in
          record {
            going = rw (part_behind rest line.used) (going_next has fits);
            within = omega (arith, t.within, size_within, ap length (part_behind rest line.used), length-drop line.used rest);
            memory = m_long ∙ t.memory;
            ports = p_long ∙ t.ports;
            sound = sound_next has;
          }

      -- no line has ended: all is as it was
      pub turning_none : line.used ≡ 0
          → TakenAs (takes wanted (length out₀) w₀ text) out₀ (told stage bus used written)
          (put_mid written (length out - written) out part') m' p'
      turning_none none =
          let w = world stage bus m p in
          let unended = no_line (answering wanted) w rest (sym used_is ∙ none) in
          let same : put_mid written (length out - written) out (mid_of written (length out - written) out) ≡ out =
          home out [] written (omega (arith, t.going.room)) in
          let so : (part' ≡ mid_of written (length out - written) out) × ((m' ≡ m) × (p' ≡ p)) = (rw unended at line_told).1 in
          rw (so.0, so.1.0, so.1.1, same) (
          returned text out₀ w₀ out m p stage bus used written
          (gone_unended (answering wanted) out₀ (takes wanted (length out₀) w₀ text) out w rest used written t.going unended))
