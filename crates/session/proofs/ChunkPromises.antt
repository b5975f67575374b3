-- A text in chunks, and what the functions do with their buffers.
use mathlib.Core.Path.{◌≡◌, refl, sym, ap, subst, ◌∙◌}
use mathlib.Core.Logic.{◌⊎◌, inl, inr, ⊎_elim}
use mathlib.Core.Bool.{Bool, true, false, not, ◌&&◌}
use mathlib.Core.List.{List, [], ◌∷◌, ◌++◌, append-nil}
use Prim.Native.Nat.{ℕ, zero, suc, ◌+◌, ◌-◌, ◌<◌, ◌≤◌}
use native.Mathlib.Omega.{arith}
use lib.Dec.{eqb, leb, ltb}
use lib.ListN.{length, get_or, take, drop, set, length-append, length-drop}
use lib.Seq.{take-append_seam, take-suc-set, get_or-take, length-take-le}
use borrow.Author.Tests.{eq-eqb, ne_eqb, leb-true, le-leb, lt-ltb, le-ltb}
use Rattle.words.proofs.TestLaws.{true_or_false, cond_same}
use Rattle.words.proofs.PartLaws.{put_front}
use Rattle.bus.specs.Refusal as Refusal
use Rattle.text.specs.Newlines.{newline, has_newline, first_line, rest_of, text_lines}
use Rattle.text.specs.Frames.{setup_in}
use Rattle.text.specs.Reading.{Taken, most_held, held_of}
use Rattle.text.specs.Chunks.{begun_in}
use Rattle.text.proofs.NewlineLaws.{none_at}
use Rattle.text.proofs.LinePromises.{taken_fits, held_is_short, front_has_none, line_unended, ended_line, no_newline, last_of, last_none}
use Rattle.text.proofs.ChunkLaws.{chunks_say_the_same, fed_kept}
use Rattle.text.proofs.ReadingLaws.{taken_next, taken_none, unended_stops, rest_length, taken_rest, answer_long}
use Rattle.session.specs.World.{World, closing, says, turns, most_said, answering, says_by, machine_of, setup_answer, set_up_by, fresh_world}
use Rattle.session.specs.Feeding.{takes, has_room, feed_refusal, closed_in, closed, takes_last, wants_newline, ended_text, ended_at}
use Rattle.session.specs.Output.{answers, ran_in}
use Rattle.session.specs.Promises.{
  AnyChunks,
  CallsGoOn,
  CallsAnswer,
  FedInPlace,
  OnlyFrontWritten,
  FeedRefused,
  FinishRefused,
  NothingToEnd,
  RoomToRead,
  RoomAsked,
  NothingCompleteHeld,
  FinishedInPlace,
  WholeRun,
}
use Rattle.session.specs.declared.state.Stage.TheVariants.{Awaiting, Running}
use Rattle.session.specs.declared.state.Session.{Session}
use Rattle.session.specs.declared.state.Wanted.{Wanted}
use Rattle.session.specs.declared.state.Wanted.TheVariants.{Answers, Pictures, Outcomes}
use Rattle.session.proofs.CallLaws.{held_within}
use Rattle.session.proofs.SoundLaws.{Sound, sound_turns, sound_fresh}
use Rattle.session.proofs.LoopLaws.{event_answered, line_at_most, closing_at_most, some_said}
use Rattle.session.proofs.FeedLaws.{call_accepted}
use Rattle.session.proofs.RunPromises.{cut_changes_nothing, one_said, none_said, quiet_until_the_end}

-- ---- Chunks

pub any_chunks : AnyChunks
any_chunks wanted calls = chunks_say_the_same World (answering wanted) (cut_changes_nothing wanted) fresh_world calls

said_fits : (wanted : Wanted) (size : ℕ) (w : World) (text : List ℕ) → length (takes wanted size w text).said ≤ size
said_fits wanted size w text = (taken_fits World (answering wanted) (line_at_most wanted) size w text).0

-- ---- The closing

-- it is written where it has its room
closed_fits : (wanted : Wanted) (size : ℕ) (t : Taken World) → length t.said ≤ size → length (closed wanted size t).said ≤ size
closed_fits wanted size t fits = go (leb (most_said wanted) (size - length t.said)) refl
  where
    go : (b : Bool) → leb (most_said wanted) (size - length t.said) ≡ b → length (closed wanted size t).said ≤ size
    go true e =
        let room = leb-true (most_said wanted) (size - length t.said) e in
        rw e (omega (arith, fits, room, length-append t.said (closing wanted t.state.session), closing_at_most wanted t.state.session))
    go false e = rw e (omega (arith, fits, length-append {A = ℕ} t.said []))

-- answers and pictures have none
nothing_closes : (wanted : Wanted) → (wanted ≡ Outcomes → ⊥) → (room : ℕ) (session : Session) → closed_in wanted room session ≡ []
nothing_closes Answers other room session = cond_same (leb (most_said Answers) room) []
nothing_closes Pictures other room session = cond_same (leb (most_said Pictures) room) []
nothing_closes Outcomes other room session = absurd (other refl)

-- outcomes have it in a room of the most, since nothing is written before it
closing_fits : (wanted : Wanted) (w : World) (line : List ℕ) (size : ℕ) → most_said wanted ≤ size → (session : Session)
    → closed_in wanted (size - length (says wanted w line)) session ≡ closing wanted session
closing_fits Answers w line size room session = cond_same (leb (most_said Answers) (size - length (says Answers w line))) []
closing_fits Pictures w line size room session = cond_same (leb (most_said Pictures) (size - length (says Pictures w line))) []
closing_fits Outcomes w line size room session =
    let none = ap length (quiet_until_the_end w line) in
    rw (le-leb (most_said Outcomes) (size - length (says Outcomes w line)) (omega (arith, room, none))) refl

last_fits : (wanted : Wanted) (size : ℕ) (w : World) (text : List ℕ) (held : ℕ) → length (takes_last wanted size w text held).said ≤ size
last_fits wanted size w text held =
    let ended = take (ended_at text held) (ended_text text held) in
    closed_fits wanted size (takes wanted size w ended) (said_fits wanted size w ended)

-- ---- In place

pub fed_in_place : FedInPlace
fed_in_place wanted w text filled out given =
    let t = takes wanted (length out) w (take filled text) in
    rw (eq-eqb (feed_refusal w.session.bus w.memory w.ports text filled) Refusal.accepted given) (
      (put_front out t.said (said_fits wanted (length out) w (take filled text))).0,
      (take-append_seam (held_of t.rest) (drop (length (held_of t.rest)) text), refl),
    )

pub only_front_written : OnlyFrontWritten
only_front_written wanted w text filled out =
    ⊎_elim
    (λ yes. rw yes (
      (put_front out (takes wanted (length out) w (take filled text)).said (said_fits wanted (length out) w (take filled text))).1,
      (put_front out (takes_last wanted (length out) w text filled).said
          (last_fits wanted (length out) w text filled)).1,
    ))
    (λ no. rw no (refl, refl))
    (true_or_false (eqb (feed_refusal w.session.bus w.memory w.ports text filled) Refusal.accepted))

-- ---- A call goes on

pub calls_go_on : CallsGoOn
calls_go_on wanted w size text has room = rw (taken_next (answering wanted) size w text has room) (omega arith)

-- a session that goes on says something to each line
says_some : (w : World) (line : List ℕ) → (w.session.stage ≡ Awaiting) ⊎ (w.session.stage ≡ Running) → 0 < length (says Answers w line)
unfolding says_by
says_some w line =
    ⊎_elim (λ e. rw e (omega (arith, answer_long (setup_answer (setup_in line).fault (set_up_by (setup_in line))))))
    (λ e. rw e (event_answered (machine_of w) line))

pub calls_answer : CallsAnswer
calls_answer w size text has room goes =
    let line = says Answers w (first_line text) in
    let later = takes Answers (size - length line) (turns w (first_line text)) (rest_of text) in
    rw (taken_next (answering Answers) size w text has room) (omega (arith, says_some w (first_line text) goes, length-append line later.said))

held_less : (wanted : Wanted) (room : ℕ) (w : World) (text : List ℕ) (size : ℕ) → (most_said wanted) ≤ room → length text ≤ size → most_held < size
    → length (held_of (takes wanted room w text).rest) < size
held_less wanted room w text size some short long =
    ⊎_elim
    (λ (has : has_newline text ≡ true).
    let next = turns w (first_line text) in
    let left = room - length (says wanted w (first_line text)) in
    let t = takes wanted left next (rest_of text) in
    rw (taken_next (answering wanted) room w text has some) (omega (
      arith,
      held_within t.rest,
      ap length (taken_rest (answering wanted) left next (rest_of text)),
      length-drop t.used (rest_of text),
      rest_length text has,
      short,
    )))
    (λ (none : has_newline text ≡ false).
    rw (taken_none (answering wanted) room w text (unended_stops (answering wanted) room text none)) (omega (arith, held_is_short text none, long)))
    (true_or_false (has_newline text))

pub feed_refused : FeedRefused
feed_refused wanted w text filled out n given other = rw (given, ne_eqb n Refusal.accepted other) (refl, (refl, (refl, refl)))

pub finish_refused : FinishRefused
finish_refused wanted w text held out n given other = rw (given, ne_eqb n Refusal.accepted other) (refl, (refl, (refl, refl)))

pub nothing_to_end : NothingToEnd
nothing_to_end wanted w text held out other none =
    let t = takes wanted (length out) w (take held text) in
    let same : t.said ++ closed_in wanted (length out - length t.said) t.state.session ≡ t.said =
    ap (λ (l : List ℕ). t.said ++ l) (nothing_closes wanted other (length out - length t.said) t.state.session) ∙ append-nil t.said in
    rw (asked none, same) (refl, (refl, (refl, refl)))
  where
    asked : (held ≡ 0) ⊎ ((length text ≤ held) ⊎ (get_or text (held - 1) 0 ≡ newline)) → wants_newline text held ≡ false
    asked (inl empty) = rw empty
    asked (inr (inl full)) = rw (le-ltb held (length text) full) (third (ltb 0 held))
      where
        third : (b : Bool) → (b && false && not (eqb (get_or text (held - 1) 0) newline)) ≡ false
        third true = refl
        third false = refl
    asked (inr (inr ended)) = rw (eq-eqb _ _ ended) (last (ltb 0 held && ltb held (length text)))
      where
        last : (b : Bool) → (b && false) ≡ false
        last true = refl
        last false = refl

pub room_to_read : RoomToRead
room_to_read wanted w text filled out given long room =
    let s = call_accepted w.session.bus w.memory w.ports text filled given in
    rw (eq-eqb (feed_refusal w.session.bus w.memory w.ports text filled) Refusal.accepted given) (
    held_less wanted (length out) w (take filled text) (length text) room
    (omega (arith, length-take-le filled text s.filled_within, s.filled_within)) long)

-- what is held of a rest without a newline has none
held_none : (rest : List ℕ) → has_newline rest ≡ false → has_newline (held_of rest) ≡ false
held_none rest none = rw none (front_has_none most_held rest none)

pub room_asked : RoomAsked
room_asked wanted size written = (
  λ room. let left = leb-true (most_said wanted) (size - written) room in omega (arith, left, some_said wanted),
  λ left. le-leb (most_said wanted) (size - written) (omega (arith, left)),
)

pub nothing_complete_held : NothingCompleteHeld
nothing_complete_held wanted w text filled out given room =
    let t = takes wanted (length out) w (take filled text) in
    let in_place = fed_in_place wanted w text filled out given in
    let yes = eq-eqb (feed_refusal w.session.bus w.memory w.ports text filled) Refusal.accepted given in
    let left : has_room wanted (length out) (length t.said) ≡ true = rw yes at room in
    rw in_place.1.0 (
    held_none t.rest
    ((taken_fits World (answering wanted) (line_at_most wanted) (length out) w (take filled text)).1
    (leb-true (most_said wanted) (length out - length t.said) left)))

-- ---- The last line

-- one line with its newline, taken off where there is room: what is said to it, and where it leads
last_takes : (wanted : Wanted) (size : ℕ) (w : World) (line : List ℕ) → has_newline line ≡ false → (most_said wanted) ≤ size
    → ((takes wanted size w (line ++ newline ∷ [])).said ≡ says wanted w line) × ((takes wanted size w (line ++ newline ∷ [])).state ≡ turns w line)
last_takes wanted size w line none room =
    let ended = ended_line line none in
    let left = size - length (says wanted w line) in
    rw (taken_next (answering wanted) size w (line ++ newline ∷ []) ended.0 room, ended.1.0, ended.1.1) (
    rw (taken_none (answering wanted) left (turns w line) [] (unended_stops (answering wanted) left [] no_newline)) (
      append-nil (says wanted w line),
      refl,
    ))

-- and with the closing what the line alone is answered
last_closed : (wanted : Wanted) (size : ℕ) (w : World) (line : List ℕ) → has_newline line ≡ false → (most_said wanted) ≤ size
    → (closed wanted size (takes wanted size w (line ++ newline ∷ []))).said ≡ answers wanted w (line ∷ [])
last_closed wanted size w line none room =
    let taken = last_takes wanted size w line none room in
    rw (taken.0, taken.1) (
    ap (λ (l : List ℕ). says wanted w line ++ l) (closing_fits wanted w line size room (turns w line).session ∙ sym (none_said wanted (turns w line)))
    ∙ sym (one_said wanted w line []))

-- the text that the end of the input has ended
ended_take : (text : List ℕ) (held : ℕ) → 0 < held → held < length text → has_newline (take held text) ≡ false
    → take (ended_at text held) (ended_text text held) ≡ take held text ++ newline ∷ []
ended_take text held some within none =
    let one : held + 1 ≡ suc held = omega arith in
    let size : length (take held text) ≡ held = length-take-le held text (omega (arith, within)) in
    let last : get_or text (held - 1) 0 ≡ newline → ⊥ =
    λ e. none_at (take held text) none (held - 1) (omega (arith, some, size)) (get_or-take held text (held - 1) 0 (omega (arith, some)) ∙ e) in
    rw (lt-ltb 0 held some, lt-ltb held (length text) within, ne_eqb (get_or text (held - 1) 0) newline last) (
    ap (λ (k : ℕ). take k (set text held newline)) one ∙ take-suc-set text held newline within)

finished_said : (wanted : Wanted) (w : World) (text : List ℕ) (held size : ℕ) → held < length text → has_newline (take held text) ≡ false
    → most_said wanted ≤ size
    → (takes_last wanted size w text held).said ≡ answers wanted w (text_lines (take held text))
finished_said wanted w text zero size within none room =
    ap (λ (t : Taken World). (closed wanted size t).said) (taken_none (answering wanted) size w [] (unended_stops (answering wanted) size [] no_newline))
    ∙ rw (le-leb (most_said wanted) (size - 0) (omega (arith, room))) refl
    ∙ sym (ap (answers wanted w) (line_unended [] no_newline ∙ last_none) ∙ none_said wanted w)
finished_said wanted w [] (suc k) size within none room = absurd (omega (arith, within))
finished_said wanted w (b ∷ text) (suc k) size within none room =
    ap (λ (l : List ℕ). (closed wanted size (takes wanted size w l)).said) (ended_take (b ∷ text) (suc k) (omega arith) within none)
    ∙ last_closed wanted size w (take (suc k) (b ∷ text)) none room
    ∙ ap (answers wanted w) (sym (line_unended (take (suc k) (b ∷ text)) none ∙ last_of b (take k text)))

pub finished_in_place : FinishedInPlace
finished_in_place wanted w text held out given within none room =
    rw (eq-eqb (feed_refusal w.session.bus w.memory w.ports text held) Refusal.accepted given) (
    (put_front out (takes_last wanted (length out) w text held).said (last_fits wanted (length out) w text held)).0
    ∙ finished_said wanted w text held (length out) within none room)

-- ---- A whole run

sound_accepted : (w : World) (text : List ℕ) (held : ℕ) → Sound w → held < length text
    → feed_refusal w.session.bus w.memory w.ports text held ≡ Refusal.accepted
sound_accepted w text held s within = rw (s.fit, le-ltb (length text) held (omega (arith, within)), s.sense) refl

pub whole_run : WholeRun
whole_run wanted calls text out same within none room =
    let r = ran_in wanted calls in
    let sound = fed_kept (answering wanted) Sound sound_turns calls (begun_in fresh_world) sound_fresh in
    let given = sound_accepted r.state text (length r.held) sound within in
    let unended : has_newline (take (length r.held) text) ≡ false = subst (λ (l : List ℕ). has_newline l ≡ false) (sym same) none in
    ap (λ (l : List ℕ). r.said ++ l) (
    finished_in_place wanted r.state text (length r.held) out given within unended room
    ∙ ap (λ (l : List ℕ). answers wanted r.state (text_lines l)) same)
    ∙ any_chunks wanted calls
