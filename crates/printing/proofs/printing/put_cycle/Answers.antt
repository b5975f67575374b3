-- Eleven stores over the whole part.
use mathlib.Core.Path.{refl, sym, ap₂, ◌∙◌}
use mathlib.Core.List.{[], ◌∷◌, ◌++◌}
use Rattle.words.proofs.PartLaws.{sets_all}
use Rattle.text.specs.Newlines.{newline}
use Rattle.printing.proofs.LineLaws.{two_found, four_found}
use Rattle.printing.proofs.printing.put_cycle.Goals as goal

pub returns : goal.returns
returns c =
    let given = c.args in
    let signals = two_found given.signals c.digit.ensures c.digit-2.ensures in
    let status = two_found given.status c.digit-3.ensures c.digit-4.ensures in
    let cycles = two_found given.cycles c.digit-5.ensures c.digit-6.ensures in
    let high = two_found _ c.digit-7.ensures c.digit-8.ensures in
    let low = two_found _ c.digit-9.ensures c.digit-10.ensures in
    let stored =
    c.digit.result ∷ c.digit-2.result ∷ c.digit-3.result ∷ c.digit-4.result ∷ c.digit-5.result ∷ c.digit-6.result ∷ c.digit-7.result
    ∷ c.digit-8.result ∷ c.digit-9.result ∷ c.digit-10.result ∷ newline ∷ [] in
    sets_all given.part.now stored (sym c.told-part)
    ∙ ap₂ ◌++◌ (ap₂ ◌++◌ (ap₂ ◌++◌ (ap₂ ◌++◌ signals status) cycles) (four_found given.datum high low)) refl
