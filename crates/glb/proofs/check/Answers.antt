-- `glb::check` meets its contract. Assumes nothing.
use native.Mathlib.Omega.{arith}
use Rattle.std.proofs.lemmas.Grind.{common_steps}
use Rattle.glb.proofs.check.Goals as goal

pub returns-in_err-fill : goal.returns-in_err-fill
returns-in_err-fill c =
    let e = rw c.in_err-fill.was at c.fill.ensures in
    grind (arith, common_steps)

pub returns : goal.returns
returns c = rw c.in_ok-fill.was at c.fill.ensures
