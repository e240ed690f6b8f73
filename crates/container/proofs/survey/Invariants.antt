use Prim.Native.Nat.{◌-◌}
use lib.ListN.{length}
use Rattle.container.proofs.Stages.{Stage}
use Rattle.container.proofs.survey.Given as goal

abbrev pub invariant-loop-kind : goal.invariant-loop-kind
invariant-loop-kind l = Stage l.file l.at l.count l.wrong_json l.wrong_bin

abbrev pub decreases-loop-kind : goal.decreases-loop-kind
decreases-loop-kind l = length l.file - l.at
