use mathlib.Core.Path.{◌≡◌}
use mathlib.Core.Option.{Option}
use lib.ListN.{length}
use Rattle.json_text.specs.Tree.{Json}
use Rattle.nav.specs.Members.{FoundTree}
use Rattle.nav.specs.Results.{Placed}
use Rattle.graph.specs.Stream.{root_step, marked}
use Rattle.document.proofs.nodes.Going.{Going, left}
use Rattle.document.proofs.nodes.Streaming.{Fed}
use Rattle.document.proofs.nodes.roots.root_list.Given as goal

abbrev pub invariant-loop-element : goal.invariant-loop-element
invariant-loop-element l = (length l.marks ≡ length l.initial.marks)
    × ((o : Option Json) → Placed (FoundTree l.s o) l.fn.at → Going l.s l.element
    (Fed (root_step l.parents) (marked l.initial.found l.initial.marks) o l.scene (marked l.found l.marks)))

abbrev pub decreases-loop-element : goal.decreases-loop-element
decreases-loop-element l = left l.s l.element
