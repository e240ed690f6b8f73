use Prim.Native.Nat.{◌≤◌}
use mathlib.Core.Path.{◌≡◌}
use Rattle.timing_loop.specs.Counts.{count_of}
use Rattle.timing_loop.proofs.time_elements.Given as goal

abbrev pub invariant-loop-i : goal.invariant-loop-i
invariant-loop-i l = (l.count ≤ l.i) × (l.count ≡ count_of l.file l.s l.component l.i)
