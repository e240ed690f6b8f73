-- `graph::verdict::is_endless` meets its contract. Assumes nothing.
use Prim.Native.Nat.{◌≤◌}
use mathlib.Core.Path.{sym}
use native.Mathlib.Omega.{arith}
use borrow.Author.Tests.{le-ltb}
use lib.ListN.{length, get_or-eq_default}
use Rattle.graph.specs.Graph.{climb}
use Rattle.graph.specs.Stream.{up_in, endless_in}
use Rattle.graph.proofs.Climb.{later}
use Rattle.graph.proofs.verdict.is_endless.Goals as goal

pub returns-then-n-at : goal.returns-then-n-at
unfolding endless_in
returns-then-n-at c =
    let a = c.args in
    let l = c.loop in
    let ps = a.parents.now in
    let past : length ps ≤ climb (up_in ps) l.counter a.x = rw l.invariant at c.if-n-at.true in
    sym (le-ltb _ _ (later (up_in ps) (length ps) a.x (λ y h. rw (get_or-eq_default ps (length ps) h) (omega arith))
    l.counter (length ps) (omega arith) past))
