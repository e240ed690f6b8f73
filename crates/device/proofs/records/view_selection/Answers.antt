use Rattle.tables.specs.Fitness.{view_selection_of}
use Rattle.device.proofs.records.view_selection.Goals as goal

pub returns : goal.returns
unfolding view_selection_of
returns c = rw (c.extent-extent.ensures, c.view_at-v.ensures)
