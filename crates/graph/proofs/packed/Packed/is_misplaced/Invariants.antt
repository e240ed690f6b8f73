use Prim.Native.Nat.{ℕ, ◌+◌, ◌<◌}
use mathlib.Core.Bool.{false}
use mathlib.Core.Path.{◌≡◌}
use lib.Dec.{ltb}
use lib.ListN.{length, get_or}
use Rattle.graph.proofs.Placing.{Room}
use Rattle.graph.proofs.packed.Packed.is_misplaced.Given as goal

abbrev pub invariant-loop-i : goal.invariant-loop-i
invariant-loop-i l = Room l.capacity l.self.starts.now l.self.lengths.now l.self.count
    × ((k : ℕ) → k < l.i
    → ltb (length l.self.entries.now) (get_or l.self.starts.now k 0 + get_or l.self.lengths.now k 0) ≡ false)
