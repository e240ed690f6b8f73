use mathlib.Core.Path.{◌≡◌}
use Rattle.graph.specs.Packing.{packed_lists}
use Rattle.graph.specs.Stream.{feed_all, link_past, link_parents}
use Rattle.graph.proofs.packed.children_past.Given as goal

abbrev pub invariant-loop-node : goal.invariant-loop-node
invariant-loop-node l =
    let lists = l.nodes.lists in
    let done = packed_lists lists.starts.now lists.lengths.now lists.entries.now l.node in
    (l.past ≡ feed_all (link_past lists.count) lists.count 0 done)
    × (l.parents ≡ feed_all link_parents l.initial.parents 0 done)
