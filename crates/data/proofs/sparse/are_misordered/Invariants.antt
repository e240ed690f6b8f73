use Prim.Native.Nat.{ℕ, ◌+◌, ◌*◌, ◌<◌}
use mathlib.Core.Path.{◌≡◌}
use mathlib.Core.Bool.{false}
use mathlib.Core.List.{List}
use Rattle.laws.specs.Bytes.{little_at}
use Rattle.data.specs.Sparse.{misordered}
use Rattle.data.proofs.Orders.{lowest}
use Rattle.data.proofs.sparse.are_misordered.Given as goal

-- the indices
abbrev pub indices : List ℕ → ℕ → ℕ → ℕ → ℕ
indices file first size k = little_at file (first + size * k) size

abbrev pub invariant-loop-k : goal.invariant-loop-k
invariant-loop-k l = ((j : ℕ) → j < l.k → misordered (indices l.file l.first l.size) l.count j ≡ false)
    × (l.lowest ≡ lowest (indices l.file l.first l.size) l.k)
