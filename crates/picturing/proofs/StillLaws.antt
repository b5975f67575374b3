-- A moment with no cycle on: the digits of its picture, written out.
use mathlib.Core.Path.{◌≡◌, refl}
use mathlib.Core.Bool.{false, not}
use mathlib.Core.List.{List, [], ◌∷◌}
use Prim.Native.Nat.{ℕ}
use Rattle.words.specs.Below.{list_below}
use Rattle.words.specs.Among.{beside}
use Rattle.phases.specs.Signal.{HOLD, pHLDA, ADSB, SDSB, DODSB, CDSB, SIXTN, is_on}
use Rattle.phases.specs.Control.{pSYNC, pSTVAL, pDBIN, pWR, is_mwrt}
use Rattle.text.specs.Digits.{digit_of}
use Rattle.pins.specs.Pin.{pin_table}
use Rattle.pins.specs.Picture.{four_bits, driven_of}
use Rattle.pins.specs.declared.moments.Moment.{Moment}
use Rattle.picturing.specs.Fives.{five_levels}

-- what is driven then
abbrev pub still_driven : List ℕ
still_driven =
    0x30 ∷ 0x30 ∷ 0x30 ∷ 0x34 ∷ 0x36 ∷ 0x36 ∷ 0x43 ∷ 0x30 ∷ 0x30 ∷ 0x30 ∷ 0x30 ∷ 0x30 ∷ 0x30 ∷ 0x33 ∷ 0x39 ∷ 0x30 ∷ 0x31 ∷ 0x30 ∷ 0x35 ∷ 0x43
    ∷ 0x30 ∷ 0x30 ∷ 0x30 ∷ 0x30 ∷ 0x30 ∷ []

module _ (m : Moment) (still : m.cyclic ≡ false) where
  pub still_1 : five_levels 0 m
      ≡ 0x30 ∷ 0x30 ∷ 0x30 ∷ digit_of (four_bits false (not (is_on 8 m.lines)) false false)
      ∷ digit_of (four_bits false (not (is_on SDSB m.signals)) (not (is_on CDSB m.signals)) false) ∷ []
  unfolding list_below beside pin_table
  still_1 = rw still refl

  pub still_21 : m.doutDriven ≡ false → five_levels 5 m
      ≡ digit_of (four_bits false (not (is_on ADSB m.signals)) (not (is_on DODSB m.signals)) false)
      ∷ digit_of (four_bits (not (is_on pSTVAL m.control)) (is_on pHLDA m.control) false false) ∷ 0x30 ∷ 0x30 ∷ 0x30 ∷ []
  unfolding list_below beside pin_table
  still_21 out = rw (still, out) refl

  pub still_41 : m.dinDriven ≡ false → five_levels 10 m
      ≡ 0x30 ∷ 0x30 ∷ 0x30 ∷ digit_of (four_bits false false (not (is_on 1 m.lines)) (not (is_on 2 m.lines)))
      ∷ digit_of (four_bits (not (is_on 4 m.lines)) false false (not (is_on SIXTN m.signals))) ∷ []
  unfolding list_below beside pin_table
  still_41 into = rw (still, into) refl

  pub still_61 : five_levels 15 m
      ≡ 0x30 ∷ digit_of (four_bits false false false (is_mwrt m.control m.status)) ∷ 0x30
      ∷ digit_of (four_bits false (not (is_on HOLD m.signals)) false (is_on pSYNC m.control))
      ∷ digit_of (four_bits (not (is_on pWR m.control)) (is_on pDBIN m.control) false false) ∷ []
  unfolding list_below beside pin_table
  still_61 = rw still refl

  pub still_81 : m.doutDriven ≡ false → m.dinDriven ≡ false → five_levels 20 m ≡ 0x30 ∷ 0x30 ∷ 0x30 ∷ 0x30 ∷ 0x30 ∷ []
  unfolding list_below beside pin_table
  still_81 out into = rw (still, out, into) refl

  pub still_driven_holds : m.doutDriven ≡ false → m.dinDriven ≡ false → driven_of m ≡ still_driven
  unfolding list_below beside pin_table driven_of
  still_driven_holds out into = rw (still, out, into) refl
