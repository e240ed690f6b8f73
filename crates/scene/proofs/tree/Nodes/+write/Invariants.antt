-- The measure is the levels left.
use Prim.Native.Nat.{◌+◌}
use mathlib.Core.Path.{◌≡◌}
use lib.ListN.{length}
use Rattle.graph.specs.Order.{preorder}
use Rattle.scene.specs.Steps.{written}
use Rattle.scene.specs.Trees.{kids_of_tree}
use Rattle.scene.proofs.Laws.{so_far}
use Rattle.scene.proofs.tree.Nodes.+write.Given as goal

abbrev pub decreases-write : goal.decreases-write
decreases-write l = l.left

abbrev pub invariant-loop-node : goal.invariant-loop-node
invariant-loop-node l =
    let done = so_far (preorder (kids_of_tree l.self.tree.now) l.left) l.self.list.now 0 l.node-index in
    (l.next ≡ l.at + length done) × (l.list ≡ written l.initial.list l.at done)
