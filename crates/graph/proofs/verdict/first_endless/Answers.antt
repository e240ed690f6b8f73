-- `graph::verdict::first_endless` meets its contract. Assumes nothing.
use mathlib.Core.Path.{◌≡◌, sym, ◌∙◌}
use native.Mathlib.Omega.{arith}
use lib.ListN.{length}
use Rattle.std.proofs.Common.{lt-ltb, le-ltb}
use Rattle.laws.specs.Search.{least}
use Rattle.laws.proofs.Search.{least_is, least_none}
use Rattle.graph.specs.Stream.{endless_in, first_endless}
use Rattle.graph.specs.Results.{item_below}
use Rattle.graph.proofs.verdict.first_endless.Goals as goal

pub returns-then-is_endless : goal.returns-then-is_endless
unfolding first_endless item_below
returns-then-is_endless c =
    let ps = c.args.parents.now in
    let l = c.loop-x in
    let e : least (endless_in ps) (length ps) ≡ l.x = least_is (endless_in ps) (length ps) l.x
    (record { le = omega arith; holds = λ _. sym c.is_endless.ensures ∙ c.if-is_endless.true; fails = l.invariant }) in
    rw (e, lt-ltb _ _ c.loop-x-test.true)

pub returns : goal.returns
unfolding first_endless item_below
returns c =
    let ps = c.args.parents.now in
    let l = c.loop-x in
    let n : l.x ≡ length ps = omega arith in
    let e : least (endless_in ps) (length ps) ≡ length ps = least_none (endless_in ps) (length ps)
    (λ k h. l.invariant k (omega (arith, h, n))) in
    rw (e, le-ltb (length ps) (length ps) (omega arith))
