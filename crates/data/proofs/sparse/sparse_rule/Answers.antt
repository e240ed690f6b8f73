-- Where item_of_a_later_accessor plants, `grind arith` takes the value from the facts, so that a wrong one is refused by what it says.
use Prim.Native.Nat.{min}
use mathlib.Core.Path.{◌≡◌, sym, ◌∙◌}
use native.Mathlib.Omega.{arith}
use borrow.Author.Count.{below_none, below_more}
use Rattle.data.proofs.Findings.{found_rule, found_nothing}
use Rattle.data.proofs.sparse.sparse_rule.Goals as goal

pub loop-i-init : goal.loop-i-init
loop-i-init c = below_none _

pub returns-then-is_broken : goal.returns-then-is_broken
returns-then-is_broken c =
    let a = c.args in
    grind arith
    ∙ found_rule a.file.now a.start a.accessors a.views a.count c.loop-i.i (omega arith)
    (rw c.min-at.ensures at (sym c.is_broken.ensures ∙ c.if-is_broken.true))
    c.loop-i.invariant

pub loop-i-preserved : goal.loop-i-preserved
loop-i-preserved c =
    below_more _ c.loop-i.i c.loop-i.invariant
    (rw c.min-at.ensures at (sym c.is_broken.ensures ∙ c.if-is_broken.false))

pub returns : goal.returns
returns c =
    let a = c.args in
    let e : c.loop-i.i ≡ min a.count 128 = omega arith in
    found_nothing a.file.now a.start a.accessors a.views a.count (rw e at c.loop-i.invariant)
