use mathlib.Core.Path.{◌≡◌}
use lib.ListN.{take}
use Rattle.graph.specs.Stream.{feed, root_step, marked}
use Rattle.graph.proofs.packed.root_list.Given as goal

abbrev pub invariant-loop-node : goal.invariant-loop-node
invariant-loop-node l = marked l.found l.marks
    ≡ feed (root_step l.parents) (marked l.initial.found l.initial.marks) l.scene (take l.node-index l.list)
