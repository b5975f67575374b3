-- By whether the list is refused.
use mathlib.Core.Path.{◌∙◌}
use Rattle.bus.proofs.SettleLaws.{list_refused, list_accepted}
use Rattle.settling.proofs.settle.Goals as goal

pub returns-in-Ok : goal.returns-in-Ok
returns-in-Ok c =
    c.settle_by.ensures ∙ list_accepted _ _ c.in-Ok.ensures

pub returns-in-Err : goal.returns-in-Err
returns-in-Err c =
    c.left_alone.ensures ∙ list_refused _ _ _ c.in-Err.ensures
