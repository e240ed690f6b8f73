use Rattle.timing.proofs.Numbers.{open_ok, open_err}
use Rattle.timing.proofs.time_container.Goals as goal

pub returns-in-Ok : goal.returns-in-Ok
returns-in-Ok c = open_ok _ _ c.in-Ok.ensures

pub returns-in-Err : goal.returns-in-Err
returns-in-Err c = open_err _ _ c.in-Err.ensures
