use Rattle.std.proofs.Common.{◌-◌, length}
use Rattle.json_text.proofs.Counts.{SoFar}
use Rattle.json_text.proofs.depth.Given as goal

abbrev pub invariant-loop-i : goal.invariant-loop-i
invariant-loop-i l = SoFar 32 l.s l.i l.d

abbrev pub decreases-loop-i : goal.decreases-loop-i
decreases-loop-i l = length l.s - l.i
