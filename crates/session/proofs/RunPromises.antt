-- What each line is answered and leads to, and the whole output.
use mathlib.Core.Path.{◌≡◌, refl, sym, ap, ap₂, subst, ◌∙◌}
use mathlib.Core.Logic.{◌⊎◌, ⊎_elim}
use mathlib.Core.Bool.{Bool, true, false, false≢true}
use mathlib.Core.List.{List, [], ◌∷◌, ◌++◌, append-nil}
use Prim.Native.Nat.{ℕ, zero, suc, ◌+◌, ◌-◌, ◌*◌, ◌<◌, ◌≤◌}
use native.Mathlib.Decide.{dec_le, ℕ_discrete}
use native.Mathlib.Omega.{arith}
use lib.Dec.{eqb, lit<}
use lib.ListN.{length, take, drop, replicate, length-append, length-take, length-drop, length-map, get_or, get_or-map}
use lib.Seq.{take_all, get_or-take, get_or-drop}
use borrow.Author.Tests.{eqb-true, eq-eqb, ne_eqb, le-leb}
use Rattle.words.specs.Below.{or_below}
use Rattle.words.specs.Among.{every_listed, beside}
use Rattle.words.proofs.TestLaws.{true_or_false, both_of}
use Rattle.words.proofs.ListLaws.{every_at}
use Rattle.words.proofs.FirstLaws.{first_below}
use Rattle.lines.specs.Arbitration.{shown}
use Rattle.phases.specs.Phase as Phase
use Rattle.phases.specs.Signal.{signals_in}
use Rattle.memory.specs.Cycles.{nothing}
use Rattle.bus.specs.Refusal as Refusal
use Rattle.bus.specs.Sense.{codes_known}
use Rattle.bus.specs.State.{free_bus}
use Rattle.bus.specs.Setup.{SetupAnswer, empty_bus}
use Rattle.bus.specs.declared.state.Bus.{Bus}
use Rattle.events.specs.Machine.{Machine, machine}
use Rattle.events.specs.Answers.{answer_with}
use Rattle.judgement.specs.Judge.{reasons_against, refusal_of}
use Rattle.judgement.specs.declared.event.Event.{Event}
use Rattle.events.specs.Step.{refusal_in, answer_to}
use Rattle.events.proofs.Refused.{refused_keeps, answers_refusal}
use Rattle.text.specs.Digits.{is_digit, is_digits, value_of, digits_of}
use Rattle.text.specs.Faults.{fault_of}
use Rattle.text.specs.Newlines.{last_line, lines_after, text_lines}
use Rattle.text.specs.Frames.{SetupLine, event_digits, event_in, setup_digits, longest, setup_in, digits_from, pages_in, chassis_in}
use Rattle.text.specs.AnswerLine.{answer_line, answer_length}
use Rattle.text.specs.OutcomeLine.{outcome_lines}
use Rattle.text.specs.Promises.{FirstWrong}
use Rattle.text.specs.Reading.{answers_to, most_held}
use Rattle.text.proofs.DigitLaws.{digit_kinds, value_flat}
use Rattle.text.proofs.FaultLaws.{wrong_first, all_digits_of, by_fault}
use Rattle.text.proofs.ReadBack.{number_back}
use Rattle.text.proofs.ReadingLaws.{answer_long}
use Rattle.pins.proofs.DigitLaws.{no_picture}
use Rattle.session.specs.World.{World, world, outcomes_left, closing, says, turns}
use Rattle.session.specs.World.{says_by, turns_by, set_up_by, setup_answer, fault_answer, after_event, fresh_world}
use Rattle.session.specs.Output.{answers}
use Rattle.session.specs.Promises.{length_line, character_line, page_line, EventTakesItsStep, WrongLineLengthAnswers, WrongCharacterAnswers}
use Rattle.session.specs.Promises.{number_said, LineNumbered, LineNumbers}
use Rattle.session.specs.Promises.{LinePictured, RefusedLineKeeps, AcceptedSetupLeads, SetupInOrder, RefusedSetupEnds}
use Rattle.session.specs.Promises.{EndedStays, CutChangesNothing, EmptyPrintsNothing, OneAnswerALine, StartsAtZero, setup_number, answered}
use Rattle.session.specs.Promises.{QuietUntilTheEnd, left_by, OutcomesAtTheEnd}
use Rattle.session.specs.declared.state.Stage.{Stage}
use Rattle.session.specs.declared.state.Stage.TheVariants.{Awaiting, Running, Ended}
use Rattle.session.specs.declared.state.Wanted.{Wanted}
use Rattle.session.specs.declared.state.Wanted.TheVariants.{Answers, Pictures, Outcomes}
use Rattle.bus.proofs.SetUp.{setup_accepts, setup_refuses}

-- ---- Events

pub event_takes_its_step : EventTakesItsStep
unfolding says_by turns_by
event_takes_its_step m line right = rw right (refl, refl)

pub wrong_line_length_answers : WrongLineLengthAnswers
unfolding says_by digits_of
wrong_line_length_answers m line other = rw (ne_eqb (length line) event_digits other) refl

pub wrong_character_answers : WrongCharacterAnswers
unfolding says_by digits_of
wrong_character_answers m line column size first =
    let so = wrong_first line column first in rw (eq-eqb (length line) event_digits size, so.0, so.1) refl

-- an event's number is 0A at most
event_number : (m : Machine) (event : Event) → (answer_to m event).refusal < 0x0B
unfolding refusal_of
event_number m event =
    omega (arith, answers_refusal m event, first_below 0x0B (reasons_against m.memory m.ports m.bus event) (lit< tt) refl)

-- a right line is answered its event's number, and another the number of its fault
right_number : (m : Machine) (line : List ℕ) → is_digits event_digits line ≡ true → number_said m line ≡ (answer_to m (event_in line)).refusal
unfolding says_by
right_number m line right =
    rw right (number_back (answer_to m (event_in line)) (omega (arith, event_number m (event_in line))))

fault_number : (m : Machine) (line : List ℕ) → is_digits event_digits line ≡ false → number_said m line ≡ (fault_of event_digits line).refusal
unfolding says_by
fault_number m line wrong =
    rw wrong (number_back (fault_answer (fault_of event_digits line))
    (by_fault event_digits line (λ f. f.refusal < 256) (λ right. lit< tt) (λ other. lit< tt) (λ size first. lit< tt)))

pub line_numbers : LineNumbers
line_numbers m line =
    ⊎_elim
    (λ right.
    let number = right_number m line right in
    let below = event_number m (event_in line) in
    record {
      wrong_line_length = (λ e. absurd (omega (arith, e, number, below)), λ other. absurd (other (all_digits_of event_digits line right).0));
      wrong_character = (λ e. absurd (omega (arith, e, number, below)), λ so. absurd (false≢true (sym so.1 ∙ right)));
    })
    (λ wrong.
    by_fault event_digits line (λ f. number_said m line ≡ f.refusal → LineNumbered m line)
    (λ right. absurd (false≢true (sym wrong ∙ right)))
    (λ other e. record {
      wrong_line_length = (λ so. other, λ so. e);
      wrong_character = (λ so. absurd (omega (arith, so, e)), λ so. absurd (other so.0));
    })
    (λ size first e. record {
      wrong_line_length = (λ so. absurd (omega (arith, so, e)), λ other. absurd (other size));
      wrong_character = (λ so. (size, wrong), λ so. e);
    })
    (fault_number m line wrong))
    (true_or_false (is_digits event_digits line))

-- a refused event is answered its number
refused_number : (m : Machine) (event : Event) → (refusal_in m event ≡ Refusal.accepted → ⊥) → (answer_to m event).refusal ≡ Refusal.accepted → ⊥
refused_number m event refused e = refused (sym (answers_refusal m event) ∙ e)

pub line_pictured : LinePictured
unfolding says_by
line_pictured m line = record {
  accepted = λ right taken. rw right refl;
  refused = λ right refused. rw right (no_picture (event_in line) (answer_to m (event_in line)) (refused_number m (event_in line) refused));
  bad = λ wrong. rw wrong refl;
  setup = refl;
}

-- a bad line keeps the machine, and so does a refused event
kept_after : (m : Machine) (line : List ℕ) → (is_digits event_digits line ≡ false) ⊎ (refusal_in m (event_in line) ≡ Refusal.accepted → ⊥)
    → after_event m line ≡ m
kept_after m line why =
    ⊎_elim
    (λ (right : is_digits event_digits line ≡ true).
    rw right (⊎_elim (λ wrong. absurd (false≢true (sym wrong ∙ right))) (λ refused. refused_keeps m (event_in line) refused) why))
    (λ (wrong : is_digits event_digits line ≡ false). rw wrong refl)
    (true_or_false (is_digits event_digits line))

pub refused_line_keeps : RefusedLineKeeps
unfolding turns_by
refused_line_keeps m line why = ap (λ (left : Machine). world Running left.bus left.memory left.ports) (kept_after m line why)

-- ---- Setup

-- the code of a page is the value of its digit
page_value : (line : List ℕ) (p : ℕ) → p < 16 → get_or (pages_in line) p 0 ≡ value_of (get_or line (4 + p) 0)
page_value line p h =
    get_or-map value_of (digits_from 4 16 line) p 0 ∙ ap value_of (get_or-take 16 (drop 4 line) p 0 h ∙ get_or-drop 4 line p 0)

sixteen : (line : List ℕ) → is_digits setup_digits line ≡ true → length (pages_in line) ≡ 16
sixteen line right =
    let size = eqb-true (length line) setup_digits (both_of (eqb (length line) setup_digits) (every_listed is_digit line) right).0 in
    length-map (digits_from 4 16 line) value_of ∙ omega (arith, length-take 16 (drop 4 line), length-drop 4 line, size)

module _ (line : List ℕ) (right : is_digits setup_digits line ≡ true) (low : (p : ℕ) → p < 16 → get_or line (4 + p) 0 ≤ 0x32) where
  -- a digit of 0, 1 or 2 stands for itself
  low_value : (b : ℕ) → b ≤ 0x32 → value_of b ≡ b - 0x30
  low_value b h = rw (le-leb b 0x39 (omega (arith, h))) refl

  page_at_holds : (p : ℕ) → p < 16 → get_or (pages_in line) p 0 ≡ get_or line (4 + p) 0 - 0x30
  page_at_holds p h = page_value line p h ∙ low_value (get_or line (4 + p) 0) (low p h)

  set_up_as_written : set_up_by (setup_in line) ≡ record { answer = Refusal.accepted; bus = free_bus (chassis_in line) }
  set_up_as_written =
      let each : (p : ℕ) → p < length (pages_in line) → get_or (pages_in line) p 0 ≤ 2 =
      λ p h. omega (arith, page_at_holds p (omega (arith, h, sixteen line right)), low p (omega (arith, h, sixteen line right))) in
      rw right (
      let so = setup_accepts (chassis_in line) each in
      ap₂ (λ (n : ℕ) (bus : Bus). answered_with n bus) so.0 so.1)
    where
      answered_with : ℕ → Bus → SetupAnswer
      answered_with n bus = record { answer = n; bus = bus }

  accepted_says : (bus : Bus) (m p : List ℕ)
      → says Answers (world Awaiting bus m p) line ≡ answer_line (answer_with Refusal.accepted (free_bus (chassis_in line)) (signals_in Phase.free) 0 nothing)
  unfolding says_by
  accepted_says bus m p = rw set_up_as_written refl

  accepted_turns : (bus : Bus) (m p : List ℕ) → turns (world Awaiting bus m p) line ≡ world Running (free_bus (chassis_in line)) m p
  unfolding turns_by
  accepted_turns bus m p = rw set_up_as_written refl

pub accepted_setup_leads : AcceptedSetupLeads
unfolding beside signals_in or_below shown digits_of
accepted_setup_leads bus m p line right low = (
  accepted_says line right low bus m p,
  rw (accepted_turns line right low bus m p) (record {
    running = refl;
    fitted = refl;
    pages = page_at_holds line right low;
    no_more_pages = sixteen line right;
    phase = refl;
    contenders = refl;
    driven = refl;
    granted = refl;
    memory_kept = refl;
    ports_kept = refl;
  }),
)

-- either refusal leaves an empty chassis
refused_empty : (line : SetupLine) → ((set_up_by line).answer ≡ Refusal.accepted → ⊥) → (set_up_by line).bus ≡ empty_bus
refused_empty line refused = go (eqb line.fault.refusal Refusal.accepted) refl (codes_known line.chassis) refl
  where
    go : (right : Bool) → eqb line.fault.refusal Refusal.accepted ≡ right → (known : Bool) → codes_known line.chassis ≡ known
        → (set_up_by line).bus ≡ empty_bus
    go true r true k = absurd (refused (rw (r, k) refl))
    go true r false k = rw (r, k) refl
    go false r known k = rw r refl

ended_silent : (wanted : Wanted) (bus : Bus) (m p : List ℕ) (lines : List (List ℕ))
    → answers wanted (world Ended bus m p) lines ≡ closing wanted (record { stage = Ended; bus = bus })
unfolding answers_to says_by turns_by
ended_silent wanted bus m p [] = refl
ended_silent wanted bus m p (line ∷ lines) = ended_silent wanted bus m p lines

refused_turn : (bus : Bus) (m p line : List ℕ) → (setup_number line ≡ Refusal.accepted → ⊥)
    → turns (world Awaiting bus m p) line ≡ world Ended empty_bus m p
unfolding turns_by
refused_turn bus m p line refused =
    rw (refused_empty (setup_in line) refused, ne_eqb (setup_number line) Refusal.accepted refused) refl

pub one_said : (wanted : Wanted) (w : World) (line : List ℕ) (lines : List (List ℕ))
    → answers wanted w (line ∷ lines) ≡ says wanted w line ++ answers wanted (turns w line) lines
unfolding answers_to
one_said wanted w line lines = refl

pub refused_setup_ends : RefusedSetupEnds
refused_setup_ends wanted bus m p line lines refused = (
  one_said wanted (world Awaiting bus m p) line lines
      ∙ ap (λ (w : World). says wanted (world Awaiting bus m p) line ++ answers wanted w lines) (refused_turn bus m p line refused)
      ∙ ap (λ (l : List ℕ). says wanted (world Awaiting bus m p) line ++ l) (ended_silent wanted empty_bus m p lines),
  refused_turn bus m p line refused,
)

-- ---- The order in which a setup line is judged

-- a page digit above 2 is a page code above 2
high_value : (b : ℕ) → is_digit b ≡ true → 0x32 < b → 2 < value_of b
high_value b is h =
    ⊎_elim (λ low. omega (arith, value_flat b is, low.1, h)) (λ high. omega (arith, value_flat b is, high.0, high.1)) (digit_kinds b is)

module _ (bus : Bus) (m p line : List ℕ) (lines : List (List ℕ)) where
  -- what is answered in all, where the number and the answer are known
  ends_with : (number : ℕ) (text : List ℕ) → setup_number line ≡ number → (number ≡ Refusal.accepted → ⊥)
      → says Answers (world Awaiting bus m p) line ≡ text → answers Answers (world Awaiting bus m p) (line ∷ lines) ≡ text
  ends_with number text is refused said =
      (refused_setup_ends Answers bus m p line lines (λ e. refused (sym is ∙ e))).0 ∙ append-nil (says Answers (world Awaiting bus m p) line) ∙ said

  length_judged : (length line ≡ 20 → ⊥)
      → answers Answers (world Awaiting bus m p) (line ∷ lines) ≡ length_line
  unfolding says_by digits_of
  length_judged other =
      let wrong = ne_eqb (length line) setup_digits other in
      ends_with Refusal.wrong_line_length _ (rw (wrong, setup_number) refl) (λ e. omega (arith, e)) (rw wrong refl)

  characters_judged : (column : ℕ) → length line ≡ 20 → FirstWrong line column
      → answers Answers (world Awaiting bus m p) (line ∷ lines) ≡ character_line column
  unfolding says_by digits_of
  characters_judged column size first =
      let long = eq-eqb (length line) setup_digits size in
      let so = wrong_first line column first in
      ends_with Refusal.wrong_character _ (rw (long, so.0, setup_number) refl) (λ e. omega (arith, e)) (rw (long, so.0, so.1) refl)

  -- the code of a page whose digit is above 2
  high_page : (n : ℕ) → n < 16 → is_digits setup_digits line ≡ true → 0x32 < get_or line (4 + n) 0 → 2 < get_or (pages_in line) n 0
  high_page n h right above =
      let both = both_of (eqb (length line) setup_digits) (every_listed is_digit line) right in
      let size = eqb-true (length line) setup_digits both.0 in
      let is = every_at is_digit line both.1 (4 + n) (omega (arith, size, h)) in
      omega (arith, page_value line n h, high_value (get_or line (4 + n) 0) is above)

  pages_judged : (n : ℕ) → n < 16 → is_digits 20 line ≡ true → 0x32 < get_or line (4 + n) 0
      → answers Answers (world Awaiting bus m p) (line ∷ lines) ≡ page_line
  unfolding says_by digits_of
  pages_judged n h right above =
      let so = setup_refuses (chassis_in line) n (omega (arith, h, sixteen line right)) (high_page n h right above) in
      ends_with Refusal.bad_page _ (rw (right, setup_number) so.0) (λ e. omega (arith, e)) (rw (right, so.0) refl)

pub setup_in_order : SetupInOrder
setup_in_order bus m p line lines = record {
  wrong_line_length = length_judged bus m p line lines;
  wrong_character = characters_judged bus m p line lines;
  bad_page = pages_judged bus m p line lines;
}

pub ended_stays : EndedStays
unfolding says_by turns_by
ended_stays wanted w line e = rw e (refl, refl)

-- ---- What lies beyond the longest right line

-- a line longer than that has a wrong length, cut or not
too_long : (count : ℕ) (line : List ℕ) → count ≤ longest → longest < length line → eqb (length line) count ≡ false
too_long count line h long = ne_eqb (length line) count (λ e. omega (arith, h, long, e))

cut_either : (P : List ℕ → List ℕ → Type 0) (line : List ℕ) → ((l : List ℕ) → P l l)
    → (longest < length (take most_held line) → longest < length line → P (take most_held line) line) → P (take most_held line) line
cut_either P line same long = go (dec_le (length line) most_held)
  where
    go : Dec (length line ≤ most_held) → P (take most_held line) line
    go (yes h) = subst (λ (l : List ℕ). P l line) (sym (take_all most_held line h)) (same line)
    go (no h) = long (omega (arith, length-take most_held line)) (omega arith)

cut_setup : (line : List ℕ) → setup_in (take most_held line) ≡ setup_in line
cut_setup line =
    cut_either (λ a b. setup_in a ≡ setup_in b) line (λ l. refl)
    (λ ha hb. rw (too_long setup_digits (take most_held line) (omega arith) ha, too_long setup_digits line (omega arith) hb) refl)

cut_event : (P : List ℕ → Type 0) (line : List ℕ) → P line
    → (eqb (length (take most_held line)) event_digits ≡ false → eqb (length line) event_digits ≡ false → P (take most_held line)) → P (take most_held line)
cut_event P line whole long =
    cut_either (λ a b. P b → P a) line (λ l p. p)
    (λ ha hb p. long (too_long event_digits (take most_held line) (omega arith) ha) (too_long event_digits line (omega arith) hb)) whole

pub cut_changes_nothing : CutChangesNothing
unfolding says_by turns_by
cut_changes_nothing wanted w line = go w.session.stage refl
  where
    go : (stage : Stage) → w.session.stage ≡ stage → (says wanted w (take most_held line) ≡ says wanted w line) × (turns w (take most_held line) ≡ turns w line)
    go Awaiting e = rw (e, cut_setup line) (refl, refl)
    go Running e =
        rw e (cut_event (λ l. (says_by wanted Running w l ≡ says_by wanted Running w line) × (turns_by Running w l ≡ turns_by Running w line)) line (refl, refl)
        (λ cut whole. rw (cut, whole) (refl, refl)))
    go Ended e = rw e (refl, refl)

-- ---- The whole output

-- behind the last line
pub none_said : (wanted : Wanted) (w : World) → answers wanted w [] ≡ closing wanted w.session
unfolding answers_to
none_said wanted w = refl

pub empty_prints_nothing : EmptyPrintsNothing
unfolding lines_after last_line answers_to outcomes_left fresh_world
empty_prints_nothing Answers = refl
empty_prints_nothing Pictures = refl
empty_prints_nothing Outcomes = refl

running_says : (bus : Bus) (m p line : List ℕ) → length (says Answers (world Running bus m p) line) ≡ answer_length
unfolding says_by
running_says bus m p line =
    ⊎_elim
    (λ right. rw right (answer_long (answer_to (machine bus m p) (event_in line))))
    (λ wrong. rw wrong (answer_long (fault_answer (fault_of event_digits line))))
    (true_or_false (is_digits event_digits line))

running_turn : (bus : Bus) (m p line : List ℕ) (lines : List (List ℕ))
    → ((b : Bus) (n q : List ℕ) → length (answers Answers (world Running b n q) lines) ≡ length lines * answer_length)
    → length (answers Answers (turns (world Running bus m p) line) lines) ≡ length lines * answer_length
unfolding turns_by
running_turn bus m p line lines so = so _ _ _

running_long : (lines : List (List ℕ)) (bus : Bus) (m p : List ℕ)
    → length (answers Answers (world Running bus m p) lines) ≡ length lines * answer_length
running_long [] bus m p = ap length (none_said Answers (world Running bus m p))
running_long (line ∷ lines) bus m p =
    ap length (one_said Answers (world Running bus m p) line lines)
    ∙ length-append (says Answers (world Running bus m p) line) (answers Answers (turns (world Running bus m p) line) lines)
    ∙ omega (arith, running_says bus m p line, running_turn bus m p line lines (running_long lines))

-- after an accepted setup every line is an event
accepted_turn : (bus : Bus) (m p line : List ℕ) (lines : List (List ℕ)) → setup_number line ≡ Refusal.accepted
    → length (answers Answers (turns (world Awaiting bus m p) line) lines) ≡ length lines * answer_length
unfolding turns_by
accepted_turn bus m p line lines taken = rw (eq-eqb (setup_number line) Refusal.accepted taken) (running_long lines _ m p)

awaiting_says : (bus : Bus) (m p line : List ℕ) → length (says Answers (world Awaiting bus m p) line) ≡ answer_length
unfolding says_by
awaiting_says bus m p line = answer_long (setup_answer (setup_in line).fault (set_up_by (setup_in line)))

awaiting_long : (bus : Bus) (m p : List ℕ) (lines : List (List ℕ))
    → length (answers Answers (world Awaiting bus m p) lines) ≡ answered lines * answer_length
unfolding answered
awaiting_long bus m p [] = ap length (none_said Answers (world Awaiting bus m p))
awaiting_long bus m p (line ∷ lines) = go (ℕ_discrete (setup_number line) Refusal.accepted)
  where
    go : Dec (setup_number line ≡ Refusal.accepted)
        → length (answers Answers (world Awaiting bus m p) (line ∷ lines)) ≡ answered (line ∷ lines) * answer_length
    go (yes taken) =
        rw (eq-eqb (setup_number line) Refusal.accepted taken) (
        ap length (one_said Answers (world Awaiting bus m p) line lines)
        ∙ length-append (says Answers (world Awaiting bus m p) line) (answers Answers (turns (world Awaiting bus m p) line) lines)
        ∙ omega (arith, awaiting_says bus m p line, accepted_turn bus m p line lines taken))
    go (no refused) =
        rw (ne_eqb (setup_number line) Refusal.accepted refused) (
        ap length ((refused_setup_ends Answers bus m p line lines refused).0 ∙ append-nil (says Answers (world Awaiting bus m p) line))
        ∙ awaiting_says bus m p line)

pub one_answer_a_line : OneAnswerALine
unfolding fresh_world
one_answer_a_line text = awaiting_long empty_bus fresh_world.memory fresh_world.ports (text_lines text)

-- ---- Outcomes

pub quiet_until_the_end : QuietUntilTheEnd
unfolding says_by
quiet_until_the_end w line = go w.session.stage refl (is_digits event_digits line) refl
  where
    go : (stage : Stage) → w.session.stage ≡ stage → (right : Bool) → is_digits event_digits line ≡ right → says Outcomes w line ≡ []
    go Awaiting e right r = rw e refl
    go Running e true r = rw (e, r) refl
    go Running e false r = rw (e, r) refl
    go Ended e right r = rw e refl

-- all that is written is written of what the lines leave
closes_with : (lines : List (List ℕ)) (w : World) → answers Outcomes w lines ≡ closing Outcomes (left_by w lines).session
unfolding left_by
closes_with [] w = none_said Outcomes w
closes_with (line ∷ lines) w =
    one_said Outcomes w line lines
    ∙ ap (λ (l : List ℕ). l ++ answers Outcomes (turns w line) lines) (quiet_until_the_end w line)
    ∙ closes_with lines (turns w line)

-- from then on there is a state to tell of
Begun : World → Type 0
Begun w = closing Outcomes w.session ≡ outcome_lines w.session.bus

begun_by : (w : World) (line : List ℕ) → Begun (turns w line)
unfolding Begun outcomes_left turns_by
begun_by w line = go w.session.stage refl (eqb (setup_number line) Refusal.accepted) refl
  where
    go : (stage : Stage) → w.session.stage ≡ stage → (taken : Bool) → eqb (setup_number line) Refusal.accepted ≡ taken → Begun (turns w line)
    go Awaiting e true t = rw (e, t) refl
    go Awaiting e false t = rw (e, t) refl
    go Running e taken t = rw e refl
    go Ended e taken t = rw e refl

stays_begun : (lines : List (List ℕ)) (w : World) → Begun w → Begun (left_by w lines)
unfolding left_by
stays_begun [] w begun = begun
stays_begun (line ∷ lines) w begun = stays_begun lines (turns w line) (begun_by w line)

pub outcomes_at_the_end : OutcomesAtTheEnd
unfolding Begun left_by outcomes_left fresh_world
outcomes_at_the_end text = (
  λ some. closes_with (text_lines text) fresh_world ∙ told (text_lines text) some,
  λ none. ap (answers Outcomes fresh_world) none ∙ none_said Outcomes fresh_world,
)
  where
    told : (lines : List (List ℕ)) → (lines ≡ [] → ⊥)
        → closing Outcomes (left_by fresh_world lines).session ≡ outcome_lines (left_by fresh_world lines).session.bus
    told [] some = absurd (some refl)
    told (line ∷ lines) some = stays_begun lines (turns fresh_world line) (begun_by fresh_world line)

-- ---- Before the first line

zeros : (n k : ℕ) → get_or {A = ℕ} (replicate n 0) k 0 ≡ 0
zeros zero k = refl
zeros (suc n) zero = refl
zeros (suc n) (suc k) = zeros n k

pub starts_at_zero : StartsAtZero
unfolding fresh_world
starts_at_zero k = (zeros 0x10000 k, zeros 0x100 k)
