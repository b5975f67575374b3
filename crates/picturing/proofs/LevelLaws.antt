-- What isn't driven counts for nothing in a picture.
use mathlib.Core.Path.{◌≡◌, refl, sym, ap, ap₂, ◌∙◌}
use mathlib.Core.Bool.{Bool, true, false}
use mathlib.Core.List.{List, [], ◌∷◌, ◌++◌}
use Prim.Native.Nat.{ℕ}
use Rattle.words.specs.Below.{list_below}
use Rattle.words.specs.Among.{beside}
use Rattle.text.specs.Newlines.{newline}
use Rattle.pins.specs.Pin.{Pin, pin_table, is_high}
use Rattle.pins.specs.Picture.{pins_digit, level_digits, levels_of, driven_of, picture_line}
use Rattle.pins.specs.declared.moments.Moment.{Moment}
use Rattle.pins.proofs.TableLaws.{by_rows, digits_by_rows}
use Rattle.picturing.specs.Fives.{quieted, shown_by}

-- a pin of a quieted moment
abbrev shown : Moment → Pin → Bool
shown m pin = shown_by pin.line m (is_high pin m)

-- all the levels as they are put
abbrev pub shown_levels : Moment → List ℕ
shown_levels m = list_below (pins_digit (shown m)) level_digits

abbrev made : ℕ → ℕ → ℕ → ℕ → ℕ → ℕ → ℕ → Bool → Bool → Bool → Moment
made s l k t a o i c out into =
    record { signals = s; lines = l; control = k; status = t; address = a; dout = o; din = i; cyclic = c; doutDriven = out; dinDriven = into }

-- by what is driven; where nothing is, a bit of 0 is not set
pub quieted_levels : (m : Moment) → shown_levels (quieted m) ≡ levels_of m
unfolding levels_of by_rows pin_table
quieted_levels m =
    digits_by_rows (shown (quieted m))
    ∙ go m.signals m.lines m.control m.status m.address m.dout m.din m.cyclic m.doutDriven m.dinDriven
    ∙ sym (digits_by_rows (λ pin. is_high pin m))
  where
    go : (s l k t a o i : ℕ) (c out into : Bool)
        → by_rows (shown (quieted (made s l k t a o i c out into))) pin_table ≡ by_rows (λ pin. is_high pin (made s l k t a o i c out into)) pin_table
    go s l k t a o i true true true = refl
    go s l k t a o i true true false = refl
    go s l k t a o i true false true = refl
    go s l k t a o i true false false = refl
    go s l k t a o i false true true = refl
    go s l k t a o i false true false = refl
    go s l k t a o i false false true = refl
    go s l k t a o i false false false = refl

-- quieted once, quieted for good
quieted_twice : (m : Moment) → quieted m ≡ quieted (quieted m)
quieted_twice m = go m.address m.dout m.din m.cyclic m.doutDriven m.dinDriven
  where
    with : ℕ → ℕ → ℕ → Bool → Bool → Bool → Moment
    with a o i c out into = made m.signals m.lines m.control m.status a o i c out into

    go : (a o i : ℕ) (c out into : Bool) → quieted (with a o i c out into) ≡ quieted (quieted (with a o i c out into))
    go a o i true true true = refl
    go a o i true true false = refl
    go a o i true false true = refl
    go a o i true false false = refl
    go a o i false true true = refl
    go a o i false true false = refl
    go a o i false false true = refl
    go a o i false false false = refl

driven_alike : (m : Moment) → driven_of (quieted m) ≡ driven_of m
unfolding driven_of list_below beside pin_table
driven_alike m = refl

levels_alike : (m : Moment) → levels_of (quieted m) ≡ levels_of m
levels_alike m = sym (quieted_levels (quieted m)) ∙ ap shown_levels (sym (quieted_twice m)) ∙ quieted_levels m

-- so it is pictured alike
pub quieted_line : {r : Moment} (m : Moment) → r ≡ quieted m → picture_line r ≡ picture_line m
quieted_line m e = ap picture_line e ∙ ap₂ (λ (levels driven : List ℕ). (levels ++ driven) ++ newline ∷ []) (levels_alike m) (driven_alike m)
