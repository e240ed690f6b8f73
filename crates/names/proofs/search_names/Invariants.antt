use Prim.Native.Nat.{◌-◌}
use lib.ListN.{length}
use Rattle.names.proofs.Stages.{Stage, last_name}
use Rattle.names.proofs.Looks.{Looked}
use Rattle.names.proofs.search_names.Given as goal

abbrev pub invariant-loop-k : goal.invariant-loop-k
invariant-loop-k l = Stage l.room l.s l.starts l.lengths l.base l.top l.last l.size l.initial.pairs l.i
    × Looked l.s l.starts l.lengths (last_name l.s l.last l.size) l.base l.k l.initial.pairs l.pairs

abbrev pub invariant-text : goal.invariant-text
invariant-text l = Stage l.room l.s l.starts l.lengths l.base l.top l.last l.size l.pairs l.i

abbrev pub decreases-text : goal.decreases-text
decreases-text l = length l.s - l.i
