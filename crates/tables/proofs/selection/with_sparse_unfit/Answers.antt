use mathlib.Core.Path.{refl}
use Rattle.tables.specs.Accessors.{layout_of, sparse_tests}
use Rattle.tables.proofs.Truth.{any_fault}
use Rattle.tables.proofs.selection.with_sparse_unfit.Goals as goal

pub returns : goal.returns
returns c =
    let s = c.args.s in
    rw (
      c.named_unfit-second.ensures,
      c.named_unfit-first.ensures,
      c.sparse_fault-fault.ensures,
      c.layout_of-l.ensures,
      any_fault 34 6 (sparse_tests s.extent.views s.accessor s.indices s.values (layout_of s.accessor s.own)) refl,
    )
