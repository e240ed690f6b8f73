-- `scene::tree::Nodes::write`, which calls itself, meets its contract. Assumes nothing.
use Prim.Native.Nat.{ℕ, ◌<◌, ◌+◌, ◌-◌, ◌≤◌}
use mathlib.Core.Path.{◌≡◌, ap}
use native.Mathlib.Omega.{arith}
use lib.ListN.{get_or, length, length-set}
use Rattle.scene.specs.declared.tree.Nodes.{Nodes}
use Rattle.scene.specs.Trees.{kids_of_tree, order_from}
use Rattle.scene.proofs.Laws.{found, under, one_more, no_more}
use Rattle.scene.proofs.Unders.{under_is}
use Rattle.scene.proofs.tree.Nodes.+write.Goals as goal

-- there is room for node i and all under it
room : (self : Nodes) (left : ℕ) (deep : 0 < left) (at next n i : ℕ) → at + length (order_from self left) ≤ n
    → i < length self.list.now
    → next ≡ at + length (found (kids_of_tree self.tree.now) left deep self.list.now i)
    → next + 1 + length (under (kids_of_tree self.tree.now) left deep self.list.now i) ≤ n
room self left deep at next n i h l e =
    let kids = kids_of_tree self.tree.now in
    omega (
      arith,
      h,
      e,
      one_more kids left deep self.list.now i,
      no_more kids left deep self.list.now (i + 1) (omega arith),
    )

pub bounds-list-next : goal.bounds-list-next
bounds-list-next t c =
    let a = c.args in
    let l = c.loop-node in
    let deep : 0 < a.left = omega arith in
    let r = room a.self.now a.left deep a.at l.next (length a.list.now) l.node-index c.requires (omega arith) l.invariant.0 in
    omega (arith, r, l.auto.list)

pub write-next-requires : goal.write-next-requires
write-next-requires t c =
    let a = c.args in
    let l = c.loop-node in
    let deep : 0 < a.left = omega arith in
    let node = get_or a.self.now.list.now l.node-index 0 in
    let row = c.children_of in
    let r = room a.self.now a.left deep a.at l.next (length a.list.now) l.node-index c.requires (omega arith) l.invariant.0 in (
      omega (arith, c.decreases, deep),
      omega (
        arith,
        r,
        l.auto.list,
        length-set l.list l.next node,
        ap length (under_is a.self.now row.result node (a.left - 1) row.ensures.0 row.ensures.1),
      ),
    )
