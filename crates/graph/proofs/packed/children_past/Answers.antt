-- `graph::packed::children_past` meets its contract. Assumes nothing.
use mathlib.Core.Path.{◌≡◌, refl, ◌∙◌}
use native.Mathlib.Omega.{arith}
use lib.ListN.{length}
use Rattle.graph.specs.Stream.{link_past, link_parents, children_past, children_parents}
use Rattle.graph.proofs.Placing.{packed_next, length-packed}
use Rattle.graph.proofs.packed.children_past.Goals as goal

pub loop-node-preserved : goal.loop-node-preserved
loop-node-preserved c =
    let l = c.loop-node in
    let lists = c.args.nodes.now.lists in
    let n = lists.count in
    let called = c.link_list-past in
    let list = c.list_at.ensures in
    let wide : length l.parents ≡ n = omega (arith, l.auto.parents, c.fill.auto.list, c.requires) in
    let past = packed_next (link_past n) n lists.starts.now lists.lengths.now lists.entries.now l.node in
    let parents = packed_next link_parents c.fill.new.list lists.starts.now lists.lengths.now lists.entries.now
    l.node in (
      called.ensures.0 ∙ rw (past, wide, l.invariant.0, list) refl,
      called.ensures.1 ∙ rw (parents, l.invariant.1, list) refl,
    )

pub returns : goal.returns
unfolding children_past children_parents
returns c =
    let l = c.loop-node in
    let lists = c.args.nodes.now.lists in
    let counted = length-packed lists.starts.now lists.lengths.now lists.entries.now lists.count in
    let e : l.node ≡ lists.count = omega arith in
    (rw counted (rw e at l.invariant.0), rw counted (rw (e, c.fill.ensures, c.requires) at l.invariant.1))
