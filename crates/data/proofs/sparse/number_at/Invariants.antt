use Prim.Native.Nat.{◌+◌, ◌-◌, ◌^◌, ◌<◌}
use mathlib.Core.Path.{◌≡◌}
use Rattle.laws.specs.Bytes.{little_at}
use Rattle.data.proofs.sparse.number_at.Given as goal

abbrev pub invariant-loop-k : goal.invariant-loop-k
invariant-loop-k l = (l.n ≡ little_at l.file (l.at + l.k) (l.size - l.k)) × (l.n < 256 ^ (l.size - l.k))
