use Prim.Native.Nat.{ℕ, ◌-◌, ◌<◌, ◌≤◌}
use mathlib.Core.Path.{◌≡◌}
use mathlib.Core.Bool.{false}
use Rattle.data.specs.Buffer.{is_stray}
use Rattle.data.proofs.buffer.padding_broken.Given as goal

abbrev pub invariant-loop-k : goal.invariant-loop-k
invariant-loop-k l = (l.byte_length ≤ l.k)
    × ((j : ℕ) → j < l.k - l.byte_length → is_stray l.file l.start l.byte_length j ≡ false)
