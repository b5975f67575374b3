-- Pins 41 to 80.
use mathlib.Core.Path.{sym, ◌∙◌}
use mathlib.Core.List.{[], ◌∷◌}
use Rattle.words.proofs.PartLaws.{sets_all}
use Rattle.picturing.proofs.StillLaws.{still_41, still_61}
use Rattle.picturing.proofs.still.put_still_41.Goals as goal

pub returns : goal.returns
returns c =
    let m = c.args.m in
    let stored =
    0x30 ∷ 0x30 ∷ 0x30 ∷ c.pin_digit.result ∷ c.pin_digit-2.result
    ∷ 0x30 ∷ c.pin_digit-3.result ∷ 0x30 ∷ c.pin_digit-4.result ∷ c.pin_digit-5.result ∷ [] in
    sets_all c.args.ten.now stored (sym c.told-ten)
    ∙ rw (
      still_41 m c.requires.cyclic_value c.requires.din_driven_value,
      still_61 m c.requires.cyclic_value,
      c.pin_digit.ensures,
      c.pin_digit-2.ensures,
      c.pin_digit-3.ensures,
      c.pin_digit-4.ensures,
      c.pin_digit-5.ensures,
      c.bit_at.ensures,
      c.bit_at-2.ensures,
      c.bit_at-3.ensures,
      c.is_on.ensures,
      c.mwrt.ensures,
      c.is_on-2.ensures,
      c.is_on-3.ensures,
      c.is_on-4.ensures,
      c.is_on-5.ensures,
      c.from-dma.ensures,
    )
