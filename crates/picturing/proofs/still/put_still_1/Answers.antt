-- Pins 1 to 40.
use mathlib.Core.Path.{sym, ◌∙◌}
use mathlib.Core.List.{[], ◌∷◌}
use Rattle.words.proofs.PartLaws.{sets_all}
use Rattle.picturing.proofs.StillLaws.{still_1, still_21}
use Rattle.picturing.proofs.still.put_still_1.Goals as goal

pub returns : goal.returns
returns c =
    let m = c.args.m in
    let stored =
    0x30 ∷ 0x30 ∷ 0x30 ∷ c.pin_digit.result ∷ c.pin_digit-2.result
    ∷ c.pin_digit-3.result ∷ c.pin_digit-4.result ∷ 0x30 ∷ 0x30 ∷ 0x30 ∷ [] in
    sets_all c.args.ten.now stored (sym c.told-ten)
    ∙ rw (
      still_1 m c.requires.cyclic_value,
      still_21 m c.requires.cyclic_value c.requires.dout_driven_value,
      c.pin_digit.ensures,
      c.pin_digit-2.ensures,
      c.pin_digit-3.ensures,
      c.pin_digit-4.ensures,
      c.bit_at.ensures,
      c.is_on.ensures,
      c.is_on-2.ensures,
      c.is_on-3.ensures,
      c.is_on-4.ensures,
      c.is_on-5.ensures,
      c.is_on-6.ensures,
      c.from-dma.ensures,
    )
