-- A call that is given the text read so far: it takes the lines that have ended, as many as there is room for, and holds the rest (01, "The
-- program and one whole run": lines, the end of the input, refused setup).
use Rattle.std.specs.Prelude.{ℕ, ◌+◌, ◌-◌, Bool, cond, ◌&&◌, not, List, [], ◌++◌, eqb, leb, ltb, length, take, drop, set, get_or, Result, Ok, Err}
use Rattle.std.proofs.lemmas.List.Edits.{sets}
use Rattle.bus.specs.Refusal as Refusal
use Rattle.bus.specs.Sense.{makes_sense}
use Rattle.bus.specs.Told.{number_of}
use Rattle.bus.specs.declared.refusal.Refusal.{Refusal as NamedRefusal}
use Rattle.bus.specs.declared.state.Bus.{Bus}
use Rattle.judgement.specs.Refusals.{has_wrong_buffers}
use Rattle.text.specs.Newlines.{newline}
use Rattle.text.specs.Reading.{Taken, first_taken, taken_off, held_of}
use Rattle.session.specs.World.{World, closing, most_said, answering}
use Rattle.session.specs.declared.state.Stage.{Stage}
use Rattle.session.specs.declared.state.Session.{Session}
use Rattle.session.specs.declared.state.Wanted.{Wanted}
use Rattle.session.specs.declared.calls.Fed.{Fed as FedFound}
use Rattle.session.specs.declared.calls.TakenLines.{TakenLines}

-- what a call with room for so many bytes takes off a text
abbrev pub takes : Wanted → ℕ → World → List ℕ → Taken World
takes wanted size w text = taken_off (answering wanted) size w text

-- the line that a text begins with, where it has ended
abbrev pub takes_first : Wanted → World → List ℕ → Taken World
takes_first wanted w text = first_taken (answering wanted) w text

-- in a place of so many bytes, so many of them written, another line would have room
abbrev pub has_room : Wanted → ℕ → ℕ → Bool
has_room wanted size written = leb (most_said wanted) (size - written)

abbrev pub world_of : Session → List ℕ → List ℕ → World
world_of session memory ports = record { session = session; memory = memory; ports = ports }

-- what is told: the session, the bytes that were used, and those that were written
abbrev pub told : Stage → Bus → ℕ → ℕ → TakenLines
told stage bus used written = record { session = record { stage = stage; bus = bus }; used = used; written = written }

-- of the lines taken
abbrev pub lines_taken : Taken World → TakenLines
lines_taken t = record { session = t.state.session; used = t.used; written = length t.said }

-- No text is filled further than it reaches; then a call is refused as an event would be, for its buffers and for a senseless state.
abbrev pub feed_refusal : Bus → List ℕ → List ℕ → List ℕ → ℕ → ℕ
feed_refusal bus memory ports text filled =
    cond (ltb (length text) filled) Refusal.wrong_length
    (cond (has_wrong_buffers memory ports) Refusal.wrong_buffers (cond (makes_sense bus) Refusal.accepted Refusal.senseless))

-- ---- What a call tells, and what it leaves: `text` holds `filled` bytes, `out` is the place for what is written

-- the session then, how many bytes of text are held at its front, and how many bytes were written; the refusal is 0, or says why nothing was done
pub record Fed : Type 0 where
  pub refusal : ℕ
  pub session : Session
  pub held : ℕ
  pub written : ℕ

-- a refused call does nothing
abbrev pub refused_fed : ℕ → Session → ℕ → Fed
refused_fed refusal session filled = record { refusal = refusal; session = session; held = filled; written = 0 }

abbrev pub taken_fed : Taken World → Fed
taken_fed t =
    record { refusal = Refusal.accepted; session = t.state.session; held = length (held_of t.rest); written = length t.said }

-- what the result of a call tells so, that was given this session and so many bytes of text
abbrev pub fed_told : FedFound → Fed
fed_told fed = record { refusal = Refusal.accepted; session = fed.session; held = fed.held; written = fed.written }

abbrev pub fed_in : Session → ℕ → Result FedFound NamedRefusal → Fed
fed_in session filled (Ok fed) = fed_told fed
fed_in session filled (Err refusal) = refused_fed (number_of refusal) session filled

-- what is held of a rest stands at the front of the text
abbrev pub held_in : List ℕ → List ℕ → List ℕ
held_in text rest = held_of rest ++ drop (length (held_of rest)) text

-- by whether the call is refused
abbrev pub unless_refused : {A : Type 0} → World → List ℕ → ℕ → A → (ℕ → A) → A
unless_refused w text filled taken refused =
    cond (eqb (feed_refusal w.session.bus w.memory w.ports text filled) Refusal.accepted) taken
    (refused (feed_refusal w.session.bus w.memory w.ports text filled))

abbrev pub fed_of : Wanted → World → List ℕ → ℕ → List ℕ → Fed
fed_of wanted w text filled out =
    unless_refused w text filled (taken_fed (takes wanted (length out) w (take filled text))) (λ refusal. refused_fed refusal w.session filled)

abbrev pub world_left : Wanted → World → List ℕ → ℕ → List ℕ → World
world_left wanted w text filled out = unless_refused w text filled (takes wanted (length out) w (take filled text)).state (λ refusal. w)

abbrev pub out_left : Wanted → World → List ℕ → ℕ → List ℕ → List ℕ
out_left wanted w text filled out = unless_refused w text filled (sets out 0 (takes wanted (length out) w (take filled text)).said) (λ refusal. out)

abbrev pub text_left : Wanted → World → List ℕ → ℕ → List ℕ → List ℕ
text_left wanted w text filled out = unless_refused w text filled (held_in text (takes wanted (length out) w (take filled text)).rest) (λ refusal. text)

-- ---- At the end of the input

-- It ends a line that is held, where there is one that no newline ends, and room for a newline.
abbrev pub wants_newline : List ℕ → ℕ → Bool
wants_newline text held = ltb 0 held && ltb held (length text) && not (eqb (get_or text (held - 1) 0) newline)

abbrev pub ended_text : List ℕ → ℕ → List ℕ
ended_text text held = cond (wants_newline text held) (set text held newline) text

abbrev pub ended_at : List ℕ → ℕ → ℕ
ended_at text held = cond (wants_newline text held) (held + 1) held

-- what is written behind the lines taken, in a place of so many bytes: the closing, where the most would have room
abbrev pub closed_in : Wanted → ℕ → Session → List ℕ
closed_in wanted room session = cond (leb (most_said wanted) room) (closing wanted session) []

abbrev pub closed : Wanted → ℕ → Taken World → Taken World
closed wanted size t = record {
  state = t.state;
  said = t.said ++ closed_in wanted (size - length t.said) t.state.session;
  used = t.used;
  rest = t.rest;
}

-- so many bytes more were written
abbrev pub with_more : Fed → ℕ → Fed
with_more fed more = record { refusal = fed.refusal; session = fed.session; held = fed.held; written = fed.written + more }

-- what is taken then, and the closing
abbrev pub takes_last : Wanted → ℕ → World → List ℕ → ℕ → Taken World
takes_last wanted size w text held = closed wanted size (takes wanted size w (take (ended_at text held) (ended_text text held)))

abbrev pub finished_of : Wanted → World → List ℕ → ℕ → List ℕ → Fed
finished_of wanted w text held out =
    unless_refused w text held (taken_fed (takes_last wanted (length out) w text held)) (λ refusal. refused_fed refusal w.session held)

abbrev pub finished_world : Wanted → World → List ℕ → ℕ → List ℕ → World
finished_world wanted w text held out = unless_refused w text held (takes_last wanted (length out) w text held).state (λ refusal. w)

abbrev pub finished_out : Wanted → World → List ℕ → ℕ → List ℕ → List ℕ
finished_out wanted w text held out = unless_refused w text held (sets out 0 (takes_last wanted (length out) w text held).said) (λ refusal. out)

abbrev pub finished_text : Wanted → World → List ℕ → ℕ → List ℕ → List ℕ
finished_text wanted w text held out =
    unless_refused w text held (held_in (ended_text text held) (takes_last wanted (length out) w text held).rest) (λ refusal. text)
