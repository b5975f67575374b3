-- Refused for the line's sake, or for the chassis', or accepted.
use Rattle.std.proofs.lemmas.Result.{err_from_is_err_and}
use Rattle.feeding.proofs.SettingLaws.{line_refused, setup_refused, setup_accepted}
use Rattle.feeding.proofs.setting.set_up.Goals as goal

pub returns-in_err-setup_line : goal.returns-in_err-setup_line
returns-in_err-setup_line c =
    let told = err_from_is_err_and c.from_residual.result c.from_residual.ensures.1 in
    let hands = line_refused _ told.0 told.2.0 told.2.1 _ c.in_err-setup_line.ensures in
    rw told.1 record { bus = hands.0; answer = hands.1 }

pub returns-in_err-setup : goal.returns-in_err-setup
returns-in_err-setup c =
    let told = err_from_is_err_and c.from_residual-in_err-setup.result c.from_residual-in_err-setup.ensures.1 in
    let hands = setup_refused _ _ c.in_ok-setup_line.ensures _ told.0 told.2.0 told.2.1 c.in_err-setup.ensures in
    rw told.1 record { bus = hands.0; answer = hands.1 }

pub returns : goal.returns
returns c =
    let hands = setup_accepted _ _ c.in_ok-setup_line.ensures _ c.in_ok-setup.ensures in
    record { bus = hands.0; answer = hands.1 }
