use mathlib.Core.Path.{◌≡◌}
use mathlib.Core.Option.{Option}
use lib.ListN.{length}
use Rattle.json_text.specs.Tree.{Json}
use Rattle.nav.specs.Members.{FoundTree}
use Rattle.nav.specs.Results.{Placed}
use Rattle.graph.specs.Stream.{root_step, marked}
use Rattle.document.specs.Lists.{lists_of}
use Rattle.document.proofs.nodes.Going.{Going}
use Rattle.document.proofs.nodes.Streaming.{FedAll}
use Rattle.document.proofs.nodes.roots.root_scenes.Given as goal

abbrev pub invariant-loop-scene : goal.invariant-loop-scene
invariant-loop-scene l = (length l.marks ≡ length l.initial.marks)
    × ((o : Option Json) → Placed (FoundTree l.s o) l.fn.at → length (lists_of l.word o) ≡ l.fn.scenes → Going l.s l.element
    (FedAll (root_step l.parents) (marked l.initial.found l.initial.marks) l.word o l.scene (marked l.found l.marks)))
