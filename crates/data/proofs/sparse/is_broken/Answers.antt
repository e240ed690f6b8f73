use mathlib.Core.Path.{sym}
use native.Mathlib.Omega.{arith}
use Rattle.tables.proofs.Elements.{size_lt}
use Rattle.data.specs.Sparse.{sparse_index}
use Rattle.data.proofs.Cases.{with_sparse, without_sparse}
use Rattle.data.proofs.sparse.is_broken.Goals as goal

pub are_misordered-requires : goal.are_misordered-requires
are_misordered-requires c =
    let a = c.args in
    (rw c.component_size-size.ensures (omega (arith, size_lt a.a.sparse.indices_type)), omega arith)

pub returns-then-a : goal.returns-then-a
unfolding sparse_index
returns-then-a c =
    let a = c.args in
    rw (with_sparse a.file.now a.start a.a a.indices c.if-a.true)
    (rw c.component_size-size.ensures at c.are_misordered.ensures)

pub returns : goal.returns
returns c =
    let a = c.args in
    sym (without_sparse a.file.now a.start a.a a.indices c.if-a.false)
