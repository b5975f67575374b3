-- How many lines of pictures a text has.
use mathlib.Core.Path.{◌≡◌, refl, sym, ap, ◌∙◌}
use mathlib.Core.Logic.{inl, inr}
use mathlib.Core.Bool.{Bool, true, false, cond, ◌&&◌}
use mathlib.Core.List.{List, [], ◌∷◌, ◌++◌}
use Prim.Native.Nat.{ℕ, ◌*◌}
use native.Mathlib.Omega.{arith}
use lib.Dec.{eqb}
use lib.ListN.{length, length-append}
use borrow.Author.Tests.{eqb-true, eqb-false}
use Rattle.words.specs.Among.{is_among}
use Rattle.judgement.specs.declared.event.Event.{Event}
use Rattle.events.specs.Step.{refusal_in, answer_to}
use Rattle.events.specs.declared.answers.Answer.{Answer}
use Rattle.events.proofs.Refused.{answers_refusal}
use Rattle.text.specs.Digits.{is_digits}
use Rattle.text.specs.Newlines.{newline, text_lines}
use Rattle.text.specs.Frames.{event_digits, event_in}
use Rattle.text.specs.Reading.{answers_to}
use Rattle.text.proofs.FaultLaws.{all_digits_of}
use Rattle.pins.specs.Picture.{pictures_of}
use Rattle.pins.specs.Promises.{OneLine, TwoLines}
use Rattle.pins.proofs.HandedAnswer.{any_answer_pictured}
use Rattle.session.specs.World.{World, machine_of, turns, says_by, fresh_world}
use Rattle.session.specs.Output.{answers}
use Rattle.session.specs.Promises.{pictures_by, pictures_along, PicturesCounted}
use Rattle.session.specs.declared.state.Stage.{Stage}
use Rattle.session.specs.declared.state.Stage.TheVariants.{Awaiting, Running, Ended}
use Rattle.session.specs.declared.state.Wanted.TheVariants.{Pictures}

-- ---- An event

-- fifty digits and a newline
line_long : (line : List ℕ) → is_digits 50 line ≡ true → length (line ++ newline ∷ []) ≡ 51
line_long line digits = omega (arith, length-append line (newline ∷ []), (all_digits_of 50 line digits).0)

one_long : {text : List ℕ} {Shows : List ℕ → Type 0} → OneLine text Shows → length text ≡ 51
one_long one = ap length one.is ∙ line_long one.line one.digits

two_long : {text : List ℕ} {First Second : List ℕ → Type 0} → TwoLines text First Second → length text ≡ 102
two_long two =
    ap length two.is
    ∙ omega (
      arith,
      length-append (two.first ++ newline ∷ []) (two.second ++ newline ∷ []),
      line_long two.first two.first_digits,
      line_long two.second two.second_digits,
    )

abbrev is_word_kind : ℕ → Bool
is_word_kind kind = is_among kind (0x09 ∷ 0x0A ∷ [])

module _ (event : Event) (answer : Answer) where
  accepted_long : answer.refusal ≡ 0 → length (pictures_of event answer) ≡ cond (is_word_kind event.kind && eqb answer.cycles 2) 2 1 * 51
  accepted_long ok = go (is_word_kind event.kind) (eqb answer.cycles 2) refl refl
    where
      go : (word two : Bool) → is_word_kind event.kind ≡ word → eqb answer.cycles 2 ≡ two
          → length (pictures_of event answer) ≡ cond (word && two) 2 1 * 51
      go true true w t = two_long ((any_answer_pictured event answer).split ok w (eqb-true answer.cycles 2 t))
      go true false w t = one_long ((any_answer_pictured event answer).whole ok (inr (eqb-false answer.cycles 2 t)))
      go false two w t = one_long ((any_answer_pictured event answer).whole ok (inl w))

-- ---- A line, and lines

running_long : (w : World) (line : List ℕ) → length (says_by Pictures Running w line) ≡ pictures_by Running w line * 51
unfolding says_by pictures_by
running_long w line = go (is_digits event_digits line) refl (eqb (refusal_in (machine_of w) (event_in line)) 0) refl
  where
    number : (answer_to (machine_of w) (event_in line)).refusal ≡ refusal_in (machine_of w) (event_in line)
    number = answers_refusal (machine_of w) (event_in line)

    go : (right : Bool) → is_digits event_digits line ≡ right
        → (taken : Bool) → eqb (refusal_in (machine_of w) (event_in line)) 0 ≡ taken
        → length (says_by Pictures Running w line) ≡ pictures_by Running w line * 51
    go true r true t =
        rw (r, t) (accepted_long (event_in line) (answer_to (machine_of w) (event_in line)) (number ∙ eqb-true _ 0 t))
    go true r false t =
        rw (r, t) (
        ap length ((any_answer_pictured (event_in line) (answer_to (machine_of w) (event_in line))).refused (λ e. eqb-false _ 0 t (sym number ∙ e))))
    go false r taken t = rw r refl

line_counted : (stage : Stage) (w : World) (line : List ℕ) → length (says_by Pictures stage w line) ≡ pictures_by stage w line * 51
unfolding says_by pictures_by
line_counted Awaiting w line = refl
line_counted Running w line = running_long w line
line_counted Ended w line = refl

lines_counted : (w : World) (lines : List (List ℕ)) → length (answers Pictures w lines) ≡ pictures_along w lines * 51
unfolding answers_to pictures_along
lines_counted w [] = refl
lines_counted w (line ∷ lines) =
    let here = line_counted w.session.stage w line in
    let later = lines_counted (turns w line) lines in
    length-append (says_by Pictures w.session.stage w line) (answers Pictures (turns w line) lines) ∙ omega (arith, here, later)

pub pictures_counted : PicturesCounted
pictures_counted text = lines_counted fresh_world (text_lines text)
