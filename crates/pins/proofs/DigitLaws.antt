-- The laws of a picture's digits, for the code that puts them.
use mathlib.Core.Path.{◌≡◌, refl, ap, ◌∙◌}
use mathlib.Core.Bool.{Bool, true, false, cond}
use mathlib.Core.List.{List, [], ◌∷◌, ◌++◌, append-nil}
use Prim.Native.Nat.{ℕ, ◌+◌, ◌<◌, ◌≤◌}
use native.Mathlib.Omega.{arith}
use lib.Dec.{eqb}
use lib.ListN.{length, length-append}
use lib.Seq.{sets}
use borrow.Author.Tests.{ne_eqb, le-leb, lt-leb}
use Rattle.words.proofs.BelowLaws.{list_below_long}
use Rattle.words.proofs.PartLaws.{put_front}
use Rattle.phases.specs.Kind as Kind
use Rattle.bus.specs.Refusal.{accepted}
use Rattle.judgement.specs.declared.event.Event.{Event}
use Rattle.events.specs.declared.answers.Answer.{Answer}
use Rattle.text.specs.Newlines.{newline}
use Rattle.pins.specs.Moments.{is_split, has_strobe, moments_of}
use Rattle.pins.specs.Picture.{four_bits, level_digits, picture_digits, levels_of, driven_of, picture_of}
use Rattle.pins.specs.Picture.{picture_line, picture_length, most_pictured, pictures_of, lines_for, pictured, bytes_pictured}
use Rattle.pins.specs.Promises.{OnlyPicturesWritten}
use Rattle.pins.specs.declared.moments.Moment.{Moment}

pub four_bits_small : (a b c d : Bool) → four_bits a b c d < 16
four_bits_small true true true true = omega arith
four_bits_small true true true false = omega arith
four_bits_small true true false true = omega arith
four_bits_small true true false false = omega arith
four_bits_small true false true true = omega arith
four_bits_small true false true false = omega arith
four_bits_small true false false true = omega arith
four_bits_small true false false false = omega arith
four_bits_small false true true true = omega arith
four_bits_small false true true false = omega arith
four_bits_small false true false true = omega arith
four_bits_small false true false false = omega arith
four_bits_small false false true true = omega arith
four_bits_small false false true false = omega arith
four_bits_small false false false true = omega arith
four_bits_small false false false false = omega arith

-- ---- How long it is

pub levels_long : (m : Moment) → length (levels_of m) ≡ level_digits
unfolding levels_of
levels_long m = list_below_long _ level_digits

pub driven_long : (m : Moment) → length (driven_of m) ≡ level_digits
unfolding driven_of
driven_long m = list_below_long _ level_digits

pub picture_long : (m : Moment) → length (picture_of m) ≡ picture_digits
picture_long m = omega (arith, length-append (levels_of m) (driven_of m), levels_long m, driven_long m)

pub line_long : (m : Moment) → length (picture_line m) ≡ picture_length
line_long m = omega (arith, length-append (picture_of m) (newline ∷ []), picture_long m)

-- ---- The lines of some moments

-- one line, and two
no_lines : length (lines_for []) ≡ 0
unfolding lines_for
no_lines = refl

pub one_line : (m : Moment) → lines_for (m ∷ []) ≡ picture_line m
unfolding lines_for
one_line m = append-nil (picture_line m)

pub two_lines : (m n : Moment) → lines_for (m ∷ n ∷ []) ≡ picture_line m ++ picture_line n
unfolding lines_for
two_lines m n = ap (λ (l : List ℕ). picture_line m ++ l) (append-nil (picture_line n))

pub two_long : (m n : Moment) → length (lines_for (m ∷ n ∷ [])) ≡ picture_length + picture_length
two_long m n = ap length (two_lines m n) ∙ omega (arith, length-append (picture_line m) (picture_line n), line_long m, line_long n)

-- ---- The lines of an event: a refused one has none, and all have room

pub no_picture : (event : Event) (answer : Answer) → (answer.refusal ≡ accepted → ⊥) → pictures_of event answer ≡ []
unfolding moments_of lines_for
no_picture event answer refused = rw (ne_eqb answer.refusal accepted refused) refl

-- some moments have room for their lines
record Roomy (moments : List Moment) : Type 0 where
  fits : length (lines_for moments) ≤ most_pictured

either_roomy : (b : Bool) {l k : List Moment} → Roomy l → Roomy k → Roomy (cond b l k)
either_roomy true these those = these
either_roomy false these those = those

none_roomy : Roomy []
none_roomy = record { fits = omega (arith, no_lines) }

one_roomy : (m : Moment) → Roomy (m ∷ [])
one_roomy m = record { fits = omega (arith, ap length (one_line m), line_long m) }

two_roomy : (m n : Moment) → Roomy (m ∷ n ∷ [])
two_roomy m n = record { fits = omega (arith, two_long m n) }

pub pictures_fit : (event : Event) (answer : Answer) → length (pictures_of event answer) ≤ most_pictured
unfolding moments_of
pictures_fit event answer = all.fits
  where
    all : Roomy (moments_of event answer)
    all =
        either_roomy (eqb answer.refusal accepted)
        (either_roomy (has_strobe event.kind)
        (either_roomy (is_split event answer) (two_roomy _ _) (either_roomy (Kind.is_word event.kind) (one_roomy _) (one_roomy _)))
        (one_roomy _))
        none_roomy

-- where there is room
pub pictured_fits : (event : Event) (answer : Answer) (place : List ℕ) → most_pictured ≤ length place
    → (bytes_pictured event answer place ≡ length (pictures_of event answer)) × (pictured event answer place ≡ sets place 0 (pictures_of event answer))
pictured_fits event answer place room = rw (le-leb most_pictured (length place) room) (refl, refl)

pub only_pictures_written : OnlyPicturesWritten
only_pictures_written event answer place = (
  λ room.
      rw (pictured_fits event answer place room).1 (put_front place (pictures_of event answer) (omega (arith, room, pictures_fit event answer))),
  λ short. rw (lt-leb most_pictured (length place) short) refl,
)
