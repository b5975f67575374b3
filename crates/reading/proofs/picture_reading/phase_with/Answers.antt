-- The first phase that has the signals, in the table's order.
use mathlib.Core.Path.{◌≡◌, refl, ap, ◌∙◌}
use mathlib.Core.Bool.{Bool, true, false, cond}
use Prim.Native.Nat.{ℕ, ◌%◌}
use lib.Dec.{eqb}
use Rattle.std.specs.Prelude.{Option, Some}
use Rattle.std.specs.List.{find}
use Rattle.words.specs.Among.{beside, who_has}
use Rattle.phases.specs.Signal.{SIXTN, signal_table, signals_in}
use Rattle.phases.specs.Phases.{number_of_phase}
use Rattle.phases.specs.declared.phases.Phase.{Phase}
use Rattle.reading.specs.declared.picture_reading.TheConstants.{PHASES}
use Rattle.pins.specs.ReadAgain.{phase_unknown}
use Rattle.pins.specs.Told.{phase_told}
use Rattle.reading.proofs.picture_reading.phase_with.Goals as goal

told_first : (has : Bool) (phase : Phase) (later : Option Phase)
    → phase_told (cond has (Some phase) later) ≡ cond has (number_of_phase phase) (phase_told later)
told_first true phase later = refl
told_first false phase later = refl

in_order : (standing : ℕ) → phase_told (find (λ phase. eqb standing (signals_in (number_of_phase phase))) PHASES) ≡ who_has standing signal_table phase_unknown
unfolding signals_in beside who_has
in_order standing = simp told_first refl

pub returns : goal.returns
returns c = ap phase_told c.phase_where.ensures ∙ in_order (c.args.signals % SIXTN)
