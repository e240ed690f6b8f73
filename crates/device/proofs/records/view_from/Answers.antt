use native.Mathlib.Nat.{add-zero}
use lib.Seq.{get_or-drop}
use Rattle.device.specs.Words.{view_from}
use Rattle.device.proofs.records.view_from.Goals as goal

pub returns : goal.returns
unfolding view_from
returns c = simp (get_or-drop, add-zero)
