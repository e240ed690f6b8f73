-- `scene::tree::Nodes::children_of` meets its contract. Assumes nothing.
use Prim.Native.Nat.{◌+◌, ◌-◌}
use mathlib.Core.Path.{◌≡◌, refl, sym}
use native.Mathlib.Omega.{arith}
use lib.ListN.{get_or, length}
use Rattle.graph.proofs.Placing.{packed_at}
use Rattle.scene.proofs.tree.Nodes.children_of.Goals as goal

pub returns : goal.returns
returns c =
    let tree = c.args.self.now.tree.now in
    let start = get_or tree.starts.now c.args.node 0 in
    let size = get_or tree.lengths.now c.args.node 0 in
    let e : start + size - start ≡ size = omega arith in (
      refl,
      rw e (sym (packed_at tree.starts.now tree.lengths.now tree.children.now (length tree.starts.now) c.args.node
          c.requires)),
    )
