-- Eight stores over the whole part.
use mathlib.Core.Path.{sym, ap₂, ◌∙◌}
use mathlib.Core.List.{[], ◌∷◌, ◌++◌}
use Rattle.words.proofs.PartLaws.{sets_all}
use Rattle.printing.proofs.LineLaws.{two_found}
use Rattle.printing.proofs.printing.put_numbers.Goals as goal

pub returns : goal.returns
returns c =
    let given = c.args in
    let first = two_found given.first c.digit.ensures c.digit-2.ensures in
    let second = two_found given.second c.digit-3.ensures c.digit-4.ensures in
    let third = two_found given.third c.digit-5.ensures c.digit-6.ensures in
    let fourth = two_found given.fourth c.digit-7.ensures c.digit-8.ensures in
    let stored =
    c.digit.result ∷ c.digit-2.result ∷ c.digit-3.result ∷ c.digit-4.result ∷ c.digit-5.result ∷ c.digit-6.result ∷ c.digit-7.result
    ∷ c.digit-8.result ∷ [] in
    sets_all given.part.now stored (sym c.told-part) ∙ ap₂ ◌++◌ (ap₂ ◌++◌ (ap₂ ◌++◌ first second) third) fourth
