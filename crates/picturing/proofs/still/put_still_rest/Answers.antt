-- Thirty stores, of digits that are always the same.
use mathlib.Core.Path.{sym, ap₂, ◌∙◌}
use mathlib.Core.List.{◌∷◌, ◌++◌}
use Rattle.words.proofs.PartLaws.{sets_all}
use Rattle.picturing.proofs.StillLaws.{still_driven, still_81, still_driven_holds}
use Rattle.picturing.proofs.still.put_still_rest.Goals as goal

pub returns : goal.returns
returns c = λ m still out into.
    sets_all c.args.rest.now (0x30 ∷ 0x30 ∷ 0x30 ∷ 0x30 ∷ 0x30 ∷ still_driven) (sym c.told-rest)
    ∙ ap₂ ◌++◌ (sym (still_81 m still out into)) (sym (still_driven_holds m still out into))
