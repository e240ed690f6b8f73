use lib.ListN.{length}
use Rattle.tables.proofs.Elements.{size_is}
use Rattle.access.specs.Readings.{entry_for}
use Rattle.access.proofs.Fits.{index_sum, index_size, indices_fit}
use Rattle.access.proofs.values.entry_for.Goals as goal

pub sparse_find-requires : goal.sparse_find-requires
sparse_find-requires c =
    let s = c.args.s in
    rw (c.sum-first.ensures, index_sum s, c.component_size-size.ensures) (record { count_in_bounds = rw (← index_size s) (indices_fit (length c.args.file.now) s c.requires.s_value c.requires.has_sparse_value); size_value = size_is s.accessor.sparse.indices_type })

pub returns : goal.returns
unfolding entry_for
returns c =
    let s = c.args.s in
    rw (
      c.sparse_find.ensures,
      c.sum-first.ensures,
      index_sum s,
      c.component_size-size.ensures,
      index_size s,
    )
