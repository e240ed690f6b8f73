use mathlib.Core.Path.{◌≡◌}
use lib.ListN.{length, take}
use Rattle.graph.specs.Stream.{feed, link_past, link_parents}
use Rattle.graph.proofs.packed.link_list.Given as goal

abbrev pub invariant-loop-child : goal.invariant-loop-child
invariant-loop-child l =
    (l.past ≡ feed (link_past (length l.initial.parents)) l.first l.node (take l.child-index l.list))
    × (l.parents ≡ feed link_parents l.initial.parents l.node (take l.child-index l.list))
