use Rattle.tables.specs.Fitness.{selection_of}
use Rattle.device.proofs.Concerned.{accessor_record}
use Rattle.device.proofs.records.selection.Goals as goal

pub returns : goal.returns
unfolding selection_of
returns c =
    rw (
      c.extent-extent.ensures,
      c.view_at-values.ensures,
      c.view_at-indices.ensures,
      c.view_at-own.ensures,
      c.accessor_from-a.ensures,
      accessor_record c.args.words.now c.args.accessor c.requires,
    )
