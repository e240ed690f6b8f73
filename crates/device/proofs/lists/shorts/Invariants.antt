use Prim.Native.Nat.{◌+◌, ◌*◌}
use mathlib.Core.Path.{◌≡◌}
use Rattle.device.specs.Words.{short}
use Rattle.device.proofs.Entries.{filled}
use Rattle.device.proofs.lists.shorts.Given as goal

abbrev pub invariant-loop-i : goal.invariant-loop-i
invariant-loop-i l = l.out ≡ filled (λ k. short l.words (l.from + l.step * k)) l.initial.out l.i
