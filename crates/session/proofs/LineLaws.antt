-- One line taken off a text, by the stage of the session and by what the line is.
use mathlib.Core.Path.{◌≡◌, refl, sym, ap, subst, ◌∙◌}
use mathlib.Core.Logic.{⊎_elim}
use mathlib.Core.Bool.{true, false}
use mathlib.Core.List.{List}
use Prim.Native.Nat.{ℕ, suc, ◌+◌, ◌<◌, ◌≤◌}
use native.Mathlib.Omega.{arith}
use lib.Dec.{eqb}
use lib.ListN.{length, take}
use lib.Seq.{sets}
use borrow.Author.Tests.{eqb-true}
use Rattle.words.specs.Among.{every_listed}
use Rattle.words.proofs.TestLaws.{true_or_false, both_of}
use Rattle.bus.specs.Sense.{makes_sense}
use Rattle.bus.specs.declared.state.Bus.{Bus}
use Rattle.bus.specs.Setup.{SetupAnswer}
use Rattle.judgement.specs.Refusals.{has_wrong_buffers}
use Rattle.judgement.specs.declared.event.Event.{Event}
use Rattle.events.specs.Machine.{Machine, machine}
use Rattle.events.specs.Step.{after, answer_to, sound_after, sound_answer, stepped}
use Rattle.events.specs.declared.answers.Answer.{Answer}
use Rattle.events.specs.declared.answers.Stepped.{Stepped}
use Rattle.events.proofs.Refused.{sound_step_is_the_step}
use Rattle.text.specs.Digits.{is_digit}
use Rattle.text.specs.Newlines.{has_newline, first_line, rest_of}
use Rattle.text.specs.Frames.{BadLine, Line, SetupLine, event_digits, setup_in, next_line}
use Rattle.text.specs.Reading.{Taken}
use Rattle.text.proofs.NewlineLaws.{ends_within, ends_beyond, line_front}
use Rattle.text.proofs.FrameLaws.{Framed, framed, Spoilt, spoilt, not_ended}
use Rattle.session.specs.World.{World, world, reply_as, event_as, says_by, turns_by, set_up_by, setup_answer, stage_after, fault_answer}
use Rattle.session.specs.Feeding.{takes_first, lines_taken, told}
use Rattle.session.specs.declared.state.Stage.{Stage}
use Rattle.session.specs.declared.state.Stage.TheVariants.{Awaiting, Running, Ended}
use Rattle.session.specs.declared.state.Wanted.{Wanted}
use Rattle.session.specs.declared.calls.TakenLines.{TakenLines}

-- what a function that takes lines owes: what it tells, and what it leaves of the place that is written to, of memory and of ports
abbrev pub TakenAs : Taken World → List ℕ → TakenLines → List ℕ → List ℕ → List ℕ → Type 0
TakenAs t out lines out' m' p' =
    (lines ≡ lines_taken t) × ((out' ≡ sets out 0 t.said) × ((m' ≡ t.state.memory) × (p' ≡ t.state.ports)))

abbrev pub running : Machine → World
running m = world Running m.bus m.memory m.ports

-- what an event line of so many bytes leaves
abbrev leaves : List ℕ → Machine → List ℕ → ℕ → Taken World
leaves text left bytes size = record { state = running left; said = bytes; used = size; rest = rest_of text }

module _ (wanted : Wanted) where
  -- ---- Event lines

  event_framed : (m : Machine) (text : List ℕ) (event : Event) → Framed text event
      → takes_first wanted (running m) text ≡ leaves text (after m event) (event_as wanted event (answer_to m event)) (suc event_digits)
  unfolding says_by turns_by
  event_framed m text event f =
      let size : length (first_line text) ≡ event_digits =
      eqb-true (length (first_line text)) event_digits
      (both_of (eqb (length (first_line text)) event_digits) (every_listed is_digit (first_line text)) f.right).0 in
      rw (f.has, f.right, f.same, size) refl

  event_spoilt : (m : Machine) (text : List ℕ) (bad : BadLine) → Spoilt text bad
      → takes_first wanted (running m) text ≡ leaves text m (reply_as wanted (fault_answer bad.fault)) (bad.size + 1)
  unfolding says_by turns_by
  event_spoilt m text bad f =
      let one : suc (length (first_line text)) ≡ length (first_line text) + 1 = omega arith in
      rw (f.has, f.wrong, f.same, one) refl

  -- such a line was taken, where these bytes were put
  line_as : (t : Taken World) (text out : List ℕ) (left : Machine) (bytes : List ℕ) (size : ℕ) → t ≡ leaves text left bytes size
      → (written : ℕ) (out' : List ℕ) → written ≡ length bytes → out' ≡ sets out 0 bytes
      → TakenAs t out (told Running left.bus size written) out' left.memory left.ports
  line_as t text out left bytes size e written out' count put = rw (e, count) (refl, (put, (refl, refl)))

  module _ (bus : Bus) (m p rest out : List ℕ) (written : ℕ) (out' : List ℕ) where
    pub frame_taken : (event : Event) → Line.Frame event ≡ next_line rest → has_wrong_buffers m p ≡ false → makes_sense bus ≡ true
        → (s : Stepped) (m' p' : List ℕ) → s ≡ stepped (sound_after (machine bus m p) event).bus (sound_answer (machine bus m p) event)
        → m' ≡ (sound_after (machine bus m p) event).memory → p' ≡ (sound_after (machine bus m p) event).ports
        → written ≡ length (event_as wanted event s.answer) → out' ≡ sets out 0 (event_as wanted event s.answer)
        → TakenAs (takes_first wanted (world Running bus m p) rest) out (told Running s.bus (suc event_digits) written) out' m' p'
    frame_taken event e fit sense s m' p' is mem por count put =
        let step = sound_step_is_the_step (machine bus m p) event fit sense in
        let left = after (machine bus m p) event in
        let same : s ≡ stepped left.bus (answer_to (machine bus m p) event) =
        is ∙ ap (λ (x : Machine). stepped x.bus (sound_answer (machine bus m p) event)) step.0 ∙ ap (stepped left.bus) step.1 in
        let bytes = event_as wanted event (answer_to (machine bus m p) event) in
        rw (
          ap (λ (x : Stepped). x.bus) same,
          mem ∙ ap (λ (x : Machine). x.memory) step.0,
          por ∙ ap (λ (x : Machine). x.ports) step.0,
        ) (
        line_as (takes_first wanted (world Running bus m p) rest) rest out left bytes (suc event_digits)
        (event_framed (machine bus m p) rest event (framed rest event e)) written out'
        (count ∙ ap (λ (x : Stepped). length (event_as wanted event x.answer)) same)
        (put ∙ ap (λ (x : Stepped). sets out 0 (event_as wanted event x.answer)) same))

    pub bad_taken : (bad : BadLine) → Line.Bad bad ≡ next_line rest → (a : Answer) → a ≡ fault_answer bad.fault
        → written ≡ length (reply_as wanted a) → out' ≡ sets out 0 (reply_as wanted a)
        → TakenAs (takes_first wanted (world Running bus m p) rest) out (told Running bus (bad.size + 1) written) out' m p
    bad_taken bad e a is count put =
        line_as (takes_first wanted (world Running bus m p) rest) rest out (machine bus m p) (reply_as wanted (fault_answer bad.fault)) (bad.size + 1)
        (event_spoilt (machine bus m p) rest bad (spoilt rest bad e)) written out' (count ∙ ap (λ (x : Answer). length (reply_as wanted x)) is)
        (put ∙ ap (λ (x : Answer). sets out 0 (reply_as wanted x)) is)

  -- no line has ended
  pub none_taken : (w : World) (text out : List ℕ) → has_newline text ≡ false
      → TakenAs (takes_first wanted w text) out (record { session = w.session; used = 0; written = 0 }) out w.memory w.ports
  none_taken w text out none = rw none (refl, (refl, (refl, refl)))

  pub none_ended : (bus : Bus) (m p rest out : List ℕ) → Line.Unended ≡ next_line rest
      → TakenAs (takes_first wanted (world Running bus m p) rest) out (told Running bus 0 0) out m p
  none_ended bus m p rest out e = none_taken (world Running bus m p) rest out (not_ended rest e)

  -- ---- The setup line, and lines after a refused one: they go by neither memory nor ports

  -- what a function that isn't given these owes
  abbrev pub TakenAlone : Stage → Bus → List ℕ → List ℕ → TakenLines → List ℕ → Type 0
  TakenAlone stage bus text out lines out' =
      ((m p : List ℕ) → lines ≡ lines_taken (takes_first wanted (world stage bus m p) text))
      × ((m p : List ℕ) → out' ≡ sets out 0 (takes_first wanted (world stage bus m p) text).said)

  pub setup_taken : (bus : Bus) (text out : List ℕ) (end : ℕ) → end ≡ length (first_line text) → end < length text
      → (line : SetupLine) (given : SetupAnswer) (written : ℕ) (out' : List ℕ) → line ≡ setup_in (take end text) → given ≡ set_up_by line
      → written ≡ length (reply_as wanted (setup_answer line.fault given)) → out' ≡ sets out 0 (reply_as wanted (setup_answer line.fault given))
      → TakenAlone Awaiting bus text out (told (stage_after given) given.bus (end + 1) written) out'
  unfolding says_by turns_by
  setup_taken bus text out end e within line given written out' read is count put =
      let has = ends_within text end e within in
      let size : suc (length (first_line text)) ≡ end + 1 = omega (arith, e) in
      let same : setup_in (first_line text) ≡ line = sym (read ∙ ap setup_in (line_front text end e within)) in
      rw (has, same, ← is, size, count) ((λ m p. refl), (λ m p. put))

  pub passed : (bus : Bus) (text : List ℕ) (end : ℕ) → end ≡ length (first_line text) → end < length text → (m p : List ℕ)
      → told Ended bus (end + 1) 0 ≡ lines_taken (takes_first wanted (world Ended bus m p) text)
  unfolding says_by turns_by
  passed bus text end e within m p =
      let size : suc (length (first_line text)) ≡ end + 1 = omega (arith, e) in rw (ends_within text end e within, size) refl

  pub not_taken : (stage : Stage) (bus : Bus) (text out : List ℕ) (end : ℕ) → end ≡ length (first_line text) → length text ≤ end
      → TakenAlone stage bus text out (told stage bus 0 0) out
  not_taken stage bus text out end e beyond = rw (ends_beyond text end e beyond) ((λ m p. refl), (λ m p. refl))

  -- ---- By the stage

  abbrev Keeps : Stage → Bus → List ℕ → Type 0
  Keeps stage bus text =
      (m p : List ℕ)
      → (m ≡ (takes_first wanted (world stage bus m p) text).state.memory) × (p ≡ (takes_first wanted (world stage bus m p) text).state.ports)

  pub awaiting_keeps : (bus : Bus) (text : List ℕ) → Keeps Awaiting bus text
  unfolding turns_by
  awaiting_keeps bus text m p = ⊎_elim (λ has. rw has (refl, refl)) (λ none. rw none (refl, refl)) (true_or_false (has_newline text))

  pub ended_keeps : (bus : Bus) (text : List ℕ) → Keeps Ended bus text
  unfolding turns_by
  ended_keeps bus text m p = ⊎_elim (λ has. rw has (refl, refl)) (λ none. rw none (refl, refl)) (true_or_false (has_newline text))

  -- once the run has ended nothing is said
  pub ended_silent : (bus : Bus) (m p text out : List ℕ) → out ≡ sets out 0 (takes_first wanted (world Ended bus m p) text).said
  unfolding says_by
  ended_silent bus m p text out = ⊎_elim (λ has. rw has refl) (λ none. rw none refl) (true_or_false (has_newline text))

  -- the stage that was found
  pub at_stage : (stage found : Stage) (bus : Bus) (m p text out : List ℕ) (lines : TakenLines) (out' m' p' : List ℕ) → stage ≡ found
      → TakenAs (takes_first wanted (world found bus m p) text) out lines out' m' p'
      → TakenAs (takes_first wanted (world stage bus m p) text) out lines out' m' p'
  at_stage stage found bus m p text out lines out' m' p' e =
      subst (λ (s : Stage). TakenAs (takes_first wanted (world s bus m p) text) out lines out' m' p') (sym e)
