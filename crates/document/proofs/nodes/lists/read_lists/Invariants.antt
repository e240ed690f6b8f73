use Prim.Native.Nat.{ℕ, ◌≤◌}
use mathlib.Core.Path.{◌≡◌}
use mathlib.Core.Option.{Option}
use lib.ListN.{length}
use Rattle.std.specs.Prelude.{Some}
use Rattle.json_text.specs.Tree.{Json}
use Rattle.nav.specs.Members.{FoundTree}
use Rattle.nav.specs.Results.{Placed}
use Rattle.document.proofs.nodes.Going.{Going, left}
use Rattle.document.proofs.nodes.Turns.{Listing}
use Rattle.document.proofs.nodes.lists.read_lists.Given as goal

abbrev pub invariant-loop-element : goal.invariant-loop-element
invariant-loop-element l = (l.used ≤ length l.initial.entries)
    × (length l.lists ≡ length l.initial.lists)
    × (length l.entries ≡ length l.initial.entries)
    × ((q : ℕ) → l.element ≡ Some q → (l.count ≤ q) × (q ≤ length l.s))
    × ((o : Option Json) → Placed (FoundTree l.s o) l.fn.at
    → Going l.s l.element (Listing l.word o l.initial.lists l.initial.entries l.count l.used l.lists l.entries))

abbrev pub decreases-loop-element : goal.decreases-loop-element
decreases-loop-element l = left l.s l.element
