use Rattle.timing.proofs.Numbers.{check_ok, check_err}
use Rattle.timing.proofs.time_check.Goals as goal

pub returns-in-Ok : goal.returns-in-Ok
returns-in-Ok c = check_ok _ _ c.in-Ok.ensures

pub returns-in-Err : goal.returns-in-Err
returns-in-Err c = check_err _ _ c.in-Err.ensures
