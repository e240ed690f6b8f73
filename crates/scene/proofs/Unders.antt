-- What a walk from a node's children gives.
-- Assumes nothing.
use Prim.Native.Nat.{ℕ}
use mathlib.Core.Path.{◌≡◌, refl}
use mathlib.Core.List.{[]}
use lib.ListN.{get_or}
use Rattle.graph.specs.Order.{scene_order}
use Rattle.scene.specs.declared.tree.Nodes.{Nodes}
use Rattle.scene.specs.Trees.{kids_of_tree, order_from}
use Rattle.scene.proofs.Laws.{none_yet, no_levels, written_nil, one_more, no_more, one_written, all_found}

pub under_is : (nodes row : Nodes) (node left : ℕ) → row.tree ≡ nodes.tree
    → row.list.now ≡ get_or (kids_of_tree nodes.tree.now) node []
    → order_from row left ≡ scene_order (kids_of_tree nodes.tree.now) left (get_or (kids_of_tree nodes.tree.now) node [])
under_is nodes row node left e f = rw (e, f) refl

-- what each step of a walk over a list of nodes needs
pub ruleset walking = (none_yet, no_levels, written_nil, one_more, no_more, one_written, all_found, under_is)
