use Prim.Native.Nat.{ℕ, ◌<◌}
use mathlib.Core.Path.{◌≡◌}
use mathlib.Core.Bool.{false}
use Rattle.data.specs.Sparse.{sparse_broken}
use Rattle.data.proofs.sparse.sparse_rule.Given as goal

abbrev pub invariant-loop-i : goal.invariant-loop-i
invariant-loop-i l = (j : ℕ) → j < l.i → sparse_broken l.file l.start l.accessors l.views j ≡ false
