use Prim.Native.Nat.{◌≤◌}
use mathlib.Core.Path.{◌≡◌}
use mathlib.Core.Option.{Option}
use lib.ListN.{length}
use Rattle.json_text.specs.Tree.{Json}
use Rattle.nav.specs.Members.{FoundTree}
use Rattle.nav.specs.Results.{Placed}
use Rattle.document.proofs.nodes.Going.{Going, left}
use Rattle.document.proofs.nodes.Turns.{Taking}
use Rattle.document.proofs.nodes.packing.pack_list.Given as goal

abbrev pub invariant-loop-element : goal.invariant-loop-element
invariant-loop-element l = (l.fn.before ≤ l.used)
    × (l.used ≤ length l.initial.entries)
    × (length l.entries ≡ length l.initial.entries)
    × ((o : Option Json) → Placed (FoundTree l.s o) l.fn.at → Going l.s l.element (Taking o l.fn.before l.initial.entries l.used l.entries))

abbrev pub decreases-loop-element : goal.decreases-loop-element
decreases-loop-element l = left l.s l.element
