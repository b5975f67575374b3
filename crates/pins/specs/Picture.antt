-- The digits of a picture, a bit for each of the hundred pins, pin 1 in the top bit: whether each is high, and then whether each is driven (02, CR 1).
use Rattle.std.specs.Prelude.{ℕ, ◌+◌, ◌*◌, Bool, cond, List, [], ◌∷◌, ◌++◌, leb, length}
use Rattle.std.proofs.lemmas.List.Edits.{sets}
use Rattle.words.specs.Below.{list_below}
use Rattle.text.specs.Digits.{digit_of}
use Rattle.text.specs.Newlines.{newline}
use Rattle.judgement.specs.declared.event.Event.{Event}
use Rattle.events.specs.declared.answers.Answer.{Answer}
use Rattle.pins.specs.BusLine.{is_driven}
use Rattle.pins.specs.Pin.{Pin, pin_at, is_high}
use Rattle.pins.specs.Moments.{moments_of}
use Rattle.pins.specs.declared.moments.Moment.{Moment}

-- four tests as the bits of a digit, the first in the top bit
abbrev pub four_bits : Bool → Bool → Bool → Bool → ℕ
four_bits a b c d = cond a 8 0 + cond b 4 0 + cond c 2 0 + cond d 1 0

-- the digit of that number, counted from 0: digit 0 shows pins 1 to 4
abbrev pub pins_digit : (Pin → Bool) → ℕ → ℕ
pins_digit test k = digit_of (four_bits (test (pin_at (4 * k + 1))) (test (pin_at (4 * k + 2))) (test (pin_at (4 * k + 3))) (test (pin_at (4 * k + 4))))

abbrev pub level_digits : ℕ
level_digits = 25

abbrev pub picture_digits : ℕ
picture_digits = level_digits + level_digits

unfoldable pub levels_of : Moment → List ℕ
levels_of m = list_below (pins_digit (λ pin. is_high pin m)) level_digits

unfoldable pub driven_of : Moment → List ℕ
driven_of m = list_below (pins_digit (λ pin. is_driven pin.line m)) level_digits

abbrev pub picture_of : Moment → List ℕ
picture_of m = levels_of m ++ driven_of m

-- ---- The lines of an event

abbrev pub picture_line : Moment → List ℕ
picture_line m = picture_of m ++ newline ∷ []

unfoldable pub lines_for : List Moment → List ℕ
lines_for [] = []
lines_for (m ∷ moments) = picture_line m ++ lines_for moments

abbrev pub pictures_of : Event → Answer → List ℕ
pictures_of event answer = lines_for (moments_of event answer)

abbrev pub picture_length : ℕ
picture_length = picture_digits + 1

-- the most bytes of an event
abbrev pub most_pictured : ℕ
most_pictured = picture_length + picture_length

-- what a place holds once the lines are put at its front: a place that hasn't room for the most is left alone
abbrev pub pictured : Event → Answer → List ℕ → List ℕ
pictured event answer place = cond (leb most_pictured (length place)) (sets place 0 (pictures_of event answer)) place

abbrev pub bytes_pictured : Event → Answer → List ℕ → ℕ
bytes_pictured event answer place = cond (leb most_pictured (length place)) (length (pictures_of event answer)) 0
