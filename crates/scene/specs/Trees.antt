-- The walk from a list of nodes. Assumes nothing: these are definitions.
use Rattle.std.specs.Prelude.{ℕ, List}
use Rattle.graph.specs.Order.{scene_order}
use Rattle.scene.specs.declared.tree.Tree.{Tree}
use Rattle.scene.specs.declared.tree.Nodes.{Nodes}
use Rattle.scene.specs.Steps.{kids_in}

-- the children lists of the nodes
abbrev pub kids_of_tree : Tree → List (List ℕ)
kids_of_tree tree = kids_in tree.starts.now tree.lengths.now tree.children.now

-- the nodes in listed order, each with all under it, down to so many levels
abbrev pub order_from : Nodes → ℕ → List ℕ
order_from nodes levels = scene_order (kids_of_tree nodes.tree.now) levels nodes.list.now
