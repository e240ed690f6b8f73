use mathlib.Core.Path.{◌≡◌}
use Rattle.graph.specs.Packing.{packed_lists}
use Rattle.graph.specs.Stream.{feed_all, root_step, marked}
use Rattle.graph.proofs.packed.roots_found.Given as goal

abbrev pub invariant-loop-scene : goal.invariant-loop-scene
invariant-loop-scene l =
    let lists = l.scenes.lists in
    marked l.found l.marks
    ≡ feed_all (root_step l.parents) (marked l.initial.found l.initial.marks) 0
    (packed_lists lists.starts.now lists.lengths.now lists.entries.now l.scene)
