use native.Mathlib.Nat.{add-zero}
use lib.Seq.{get_or-drop, drop-drop}
use Rattle.device.specs.Words.{accessor_from}
use Rattle.device.proofs.records.accessor_from.Goals as goal

pub returns : goal.returns
unfolding accessor_from
returns c =
    rw c.sparse_from-sparse.ensures
    (simp (get_or-drop, add-zero, drop-drop))
