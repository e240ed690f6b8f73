use mathlib.Core.Path.{◌≡◌, refl, sym}
use native.Mathlib.Omega.{arith}
use borrow.Author.Count.{below_none, below_more}
use Rattle.laws.proofs.Search.{any_yes, any_none}
use Rattle.data.specs.Sparse.{misordered}
use Rattle.data.proofs.Numbers.{product_le}
use Rattle.data.proofs.Orders.{told, lowest_next}
use Rattle.data.proofs.sparse.are_misordered.Goals as goal
use Rattle.data.proofs.sparse.are_misordered.Invariants.{indices}

pub loop-k-init : goal.loop-k-init
loop-k-init c = (below_none _, refl)

pub overflow_mul-size : goal.overflow_mul-size
overflow_mul-size c =
    omega (arith, product_le {k = c.loop-k.k} c.requires.0 (omega arith))

pub overflow_add-first : goal.overflow_add-first
overflow_add-first c =
    omega (arith, c.requires.1, product_le {k = c.loop-k.k} c.requires.0 (omega arith))

pub returns-then-from-index : goal.returns-then-from-index
returns-then-from-index c =
    let a = c.args in
    let i = indices a.file.now a.first a.size in
    sym (any_yes (misordered i a.count) a.entries c.loop-k.k (omega arith)
    (told i a.count c.loop-k.k c.number_at-index.result c.number_at-index.ensures.0 c.loop-k.lowest
    c.loop-k.invariant.1 (rw c.from.ensures at c.if-from-index.true)))

pub loop-k-preserved : goal.loop-k-preserved
loop-k-preserved c =
    let a = c.args in
    let i = indices a.file.now a.first a.size in
    let n = c.number_at-index in (
      below_more _ c.loop-k.k c.loop-k.invariant.0
          (told i a.count c.loop-k.k n.result n.ensures.0 c.loop-k.lowest c.loop-k.invariant.1 (rw c.from.ensures at c.if-from-index.false)),
      lowest_next i a.count c.loop-k.k n.result n.ensures.0,
    )

pub returns : goal.returns
returns c =
    let a = c.args in
    let e : c.loop-k.k ≡ a.entries = omega arith in
    sym (any_none (misordered (indices a.file.now a.first a.size) a.count) a.entries
    (rw e at c.loop-k.invariant.0))
