use native.Mathlib.Nat.{add-zero}
use lib.Seq.{get_or-drop}
use Rattle.device.specs.Words.{sparse_from}
use Rattle.device.proofs.records.sparse_from.Goals as goal

pub returns : goal.returns
unfolding sparse_from
returns c = simp (get_or-drop, add-zero)
