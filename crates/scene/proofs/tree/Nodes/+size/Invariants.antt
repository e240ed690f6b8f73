-- The measure is the levels left.
use Prim.Native.Nat.{min}
use mathlib.Core.Path.{◌≡◌}
use lib.ListN.{length}
use Rattle.graph.specs.Order.{preorder}
use Rattle.scene.specs.Trees.{kids_of_tree}
use Rattle.scene.proofs.Laws.{so_far}
use Rattle.scene.proofs.tree.Nodes.+size.Given as goal

abbrev pub decreases-size : goal.decreases-size
decreases-size l = l.left

abbrev pub invariant-loop-node : goal.invariant-loop-node
invariant-loop-node l =
    l.count ≡ min l.cap (length (so_far (preorder (kids_of_tree l.self.tree.now) l.left) l.self.list.now 0 l.node-index))
