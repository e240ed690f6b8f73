use Prim.Native.Nat.{ℕ}
use mathlib.Core.Path.{◌≡◌}
use Rattle.tables.specs.declared.List.{List}
use Rattle.scene.proofs.Copies.{copied}
use Rattle.scene.proofs.places.PlacesFromArrayList.from.Given as goal

abbrev pub start : List → ℕ
start r = r.start

abbrev pub size : List → ℕ
size r = r.length

abbrev pub invariant-loop-i : goal.invariant-loop-i
invariant-loop-i g l = (l.starts ≡ copied start l.list-items l.initial.starts l.i)
    × (l.lengths ≡ copied size l.list-items l.initial.lengths l.i)
