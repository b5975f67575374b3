-- A setup line is refused for its own sake or for its chassis', or accepted.
use mathlib.Core.Path.{◌≡◌, refl, subst}
use Rattle.std.specs.Prelude.{Result, Ok, Err}
use borrow.Author.Tests.{ne_eqb}
use Rattle.bus.specs.Setup.{empty_bus, setup_of}
use Rattle.bus.specs.Told.{set_up}
use Rattle.bus.specs.declared.refusal.Refused.{Refused}
use Rattle.bus.specs.declared.state.Bus.{Bus}
use Rattle.bus.specs.declared.state.Chassis.{Chassis}
use Rattle.bus.proofs.SetUp.{refused_empty}
use Rattle.bus.proofs.ToldLaws.{never_accepted}
use Rattle.text.specs.Frames.{SetupLine}
use Rattle.text.specs.Told.{refusal_of, column_of, setup_told}
use Rattle.text.specs.declared.fault.Fault.{Fault}
use Rattle.text.specs.declared.fault.Fault.TheVariants.{WrongLength, WrongCharacter}
use Rattle.session.specs.World.{set_up_by, setup_answer}
use Rattle.feeding.specs.Told.{set_up_told, answer_told}
use Rattle.feeding.specs.declared.setting.RefusedLine.{RefusedLine}

-- such a result of this line
abbrev pub ToldOf : Result Bus RefusedLine → SetupLine → Type 0
ToldOf told line = (set_up_told told ≡ set_up_by line) × (answer_told told ≡ setup_answer line.fault (set_up_by line))

pub line_refused : (found : Fault) (refused : RefusedLine) → refused.refusal ≡ refusal_of found → refused.column ≡ column_of found
    → (line : SetupLine) → setup_told (Err found) ≡ line → ToldOf (Err refused) line
line_refused found refused number column line is = subst (ToldOf (Err refused)) is (rw (number, column) (by_cases found))
  where
    by_cases : (found : Fault) → ToldOf (Err (record { refusal = refusal_of found; column = column_of found })) (setup_told (Err found))
    by_cases WrongLength = (refl, refl)
    by_cases (WrongCharacter column) = (refl, refl)

module _ (chassis : Chassis) (line : SetupLine) (right : setup_told (Ok chassis) ≡ line) where
  pub setup_refused : (given : Refused Bus) (refused : RefusedLine) → refused.refusal ≡ given.refusal → refused.column ≡ 0
      → set_up (Err given) ≡ setup_of chassis → ToldOf (Err refused) line
  setup_refused given refused number column is =
      let empty : given.left ≡ empty_bus = refused_empty chassis given is in
      subst (ToldOf (Err refused)) right (rw (← is, ne_eqb _ _ (never_accepted given.refusal), number, column, empty) (refl, refl))

  pub setup_accepted : (bus : Bus) → set_up (Ok bus) ≡ setup_of chassis → ToldOf (Ok bus) line
  setup_accepted bus is = subst (ToldOf (Ok bus)) right (rw (← is) (refl, refl))
