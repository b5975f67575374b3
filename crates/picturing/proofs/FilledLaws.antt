-- The parts of a picture, each put at its place on the line, are the whole.
use mathlib.Core.Path.{◌≡◌, refl, sym, ap, ◌∙◌}
use mathlib.Core.List.{List, [], ◌∷◌, ◌++◌, append_assoc}
use Prim.Native.Nat.{ℕ, ◌+◌, ◌≤◌}
use native.Mathlib.Omega.{arith}
use lib.ListN.{length, take, drop, take-append-drop}
use lib.Seq.{sets, sets-eq, length-take-le, drop-append-le}
use Rattle.words.specs.Below.{list_below}
use Rattle.words.proofs.PartLaws.{sets_all}
use Rattle.pins.specs.Picture.{picture_length, levels_of, driven_of, picture_of, picture_line, lines_for}
use Rattle.pins.specs.declared.moments.Moment.{Moment}
use Rattle.pins.proofs.DigitLaws.{line_long, one_line, two_lines, two_long}
use Rattle.picturing.specs.Fives.{five_levels, five_driven, five_shown, quieted}
use Rattle.picturing.proofs.LevelLaws.{shown_levels, quieted_line}

-- ---- The digits of a line

pub levels_by_fives : (m : Moment) → five_shown 0 m ++ (five_shown 5 m ++ (five_shown 10 m ++ (five_shown 15 m ++ five_shown 20 m))) ≡ shown_levels m
unfolding list_below
levels_by_fives m = refl

pub driven_by_fives : (m : Moment) → five_driven 0 m ++ (five_driven 5 m ++ (five_driven 10 m ++ (five_driven 15 m ++ five_driven 20 m))) ≡ driven_of m
unfolding list_below driven_of
driven_by_fives m = refl

-- with no cycle on
pub still_in_parts : (m : Moment)
    → (five_levels 0 m ++ five_levels 5 m) ++ ((five_levels 10 m ++ five_levels 15 m) ++ (five_levels 20 m ++ driven_of m)) ≡ picture_of m
unfolding list_below levels_of driven_of
still_in_parts m = refl

-- ---- The lines of an event

pub two_put : (place : List ℕ) (m n : Moment) → length place ≡ picture_length + picture_length
    → picture_line m ++ picture_line n ≡ sets place 0 (lines_for (m ∷ n ∷ []))
two_put place m n long =
    sym (two_lines m n) ∙ sym (sets_all place (lines_for (m ∷ n ∷ [])) (two_long m n ∙ sym long))

-- what is put at the front of a part that was lent from a place is put at the front of the place
pub front_put : (place part : List ℕ) (n : ℕ) (bytes : List ℕ) → part ≡ take n place → n ≤ length place → length bytes ≤ n
    → sets part 0 bytes ++ drop n place ≡ sets place 0 bytes
front_put place part n bytes lent room fits =
    let long : length (take n place) ≡ n = length-take-le n place room in
    ap (λ (l : List ℕ). sets l 0 bytes ++ drop n place) lent
    ∙ ap (λ (l : List ℕ). l ++ drop n place) (sets-eq bytes (take n place) 0 (omega (arith, long, fits)))
    ∙ append_assoc bytes (drop (0 + length bytes) (take n place)) (drop n place)
    ∙ ap (λ (l : List ℕ). bytes ++ l) (
    sym (drop-append-le (0 + length bytes) (take n place) (drop n place) (omega (arith, long, fits)))
    ∙ ap (drop (0 + length bytes)) (take-append-drop n place))
    ∙ sym (sets-eq bytes place 0 (omega (arith, room, fits)))

-- one that is quieted
pub one_pictured : (place : List ℕ) {place' : List ℕ} {written : ℕ} {r : Moment} (m : Moment) → r ≡ quieted m
    → (written ≡ picture_length) × (place' ≡ sets place 0 (picture_line r))
    → (written ≡ length (lines_for (m ∷ []))) × (place' ≡ sets place 0 (lines_for (m ∷ [])))
one_pictured place m e put = rw (one_line m) (put.0 ∙ sym (line_long m), put.1 ∙ ap (sets place 0) (quieted_line m e))
