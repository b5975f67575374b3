-- A picture read off the table row by row: the same digits, computed by going through the table once.
use mathlib.Core.Path.{◌≡◌, refl, ap₂}
use mathlib.Core.Bool.{Bool}
use mathlib.Core.List.{List, [], ◌∷◌, ◌++◌}
use Prim.Native.Nat.{ℕ}
use Rattle.words.specs.Below.{list_below}
use Rattle.words.specs.Among.{beside}
use Rattle.text.specs.Digits.{digit_of}
use Rattle.text.specs.Newlines.{newline}
use Rattle.pins.specs.BusLine.{is_driven}
use Rattle.pins.specs.Pin.{Pin, pin_table, is_high}
use Rattle.pins.specs.Picture.{four_bits, pins_digit, level_digits, levels_of, driven_of, picture_line, lines_for}
use Rattle.pins.specs.declared.moments.Moment.{Moment}

-- four rows to a digit
unfoldable pub by_rows : (Pin → Bool) → List (ℕ × Pin) → List ℕ
by_rows test [] = []
by_rows test (a ∷ []) = []
by_rows test (a ∷ b ∷ []) = []
by_rows test (a ∷ b ∷ c ∷ []) = []
by_rows test (a ∷ b ∷ c ∷ d ∷ rows) = digit_of (four_bits (test a.1) (test b.1) (test c.1) (test d.1)) ∷ by_rows test rows

pub digits_by_rows : (test : Pin → Bool) → list_below (pins_digit test) level_digits ≡ by_rows test pin_table
unfolding list_below beside pin_table by_rows
digits_by_rows test = refl

unfoldable pub lines_by_rows : List Moment → List ℕ
lines_by_rows [] = []
lines_by_rows (m ∷ moments) =
    ((by_rows (λ pin. is_high pin m) pin_table ++ by_rows (λ pin. is_driven pin.line m) pin_table) ++ newline ∷ []) ++ lines_by_rows moments

line_by_rows : (m : Moment) → picture_line m ≡ (by_rows (λ pin. is_high pin m) pin_table ++ by_rows (λ pin. is_driven pin.line m) pin_table) ++ newline ∷ []
unfolding levels_of driven_of
line_by_rows m =
    ap₂ (λ (levels driven : List ℕ). (levels ++ driven) ++ newline ∷ []) (digits_by_rows (λ pin. is_high pin m))
    (digits_by_rows (λ pin. is_driven pin.line m))

pub lines_by_rows_holds : (moments : List Moment) → lines_for moments ≡ lines_by_rows moments
unfolding lines_for lines_by_rows
lines_by_rows_holds [] = refl
lines_by_rows_holds (m ∷ moments) = ap₂ ◌++◌ (line_by_rows m) (lines_by_rows_holds moments)
