-- `nav::next_at` meets its contract.
-- Assumes nothing.
use native.Mathlib.Omega.{arith}
use Rattle.json_text.proofs.Laws.{said_past}
use Rattle.json_text.proofs.Ends.{value_said}
use Rattle.nav.proofs.Scanned.{failed}
use Rattle.nav.proofs.Steps.{next_after, next_none}
use Rattle.nav.proofs.next_at.Goals as goal

pub returns-in-Ok : goal.returns-in-Ok
returns-in-Ok c =
    let a = c.args in
    let v = (said_past (value_said a.s.now a.at a.levels c.value_at.ensures) c.in-Ok.is).1 in
    next_after (omega arith) v.1 v.2 v.3 c.after_at.ensures

pub returns-in-Err : goal.returns-in-Err
returns-in-Err c =
    let a = c.args in
    next_none (failed (value_said a.s.now a.at a.levels c.value_at.ensures) c.in-Err.is).2
