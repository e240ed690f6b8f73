-- `document::nodes::links::link_nodes` meets its contract. Assumes nothing.
use Prim.Native.Nat.{◌≤◌}
use native.Mathlib.Omega.{arith}
use mathlib.Core.Path.{refl, ◌∙◌}
use lib.ListN.{length}
use Rattle.nav.specs.Members.{field_of}
use Rattle.nav.proofs.Navigation.{gather_member, gather_past}
use Rattle.graph.specs.Stream.{link_past, link_parents, children_past, children_parents}
use Rattle.document.specs.Lists.{lists_of}
use Rattle.document.proofs.nodes.Going.{begins_any, goes}
use Rattle.document.proofs.nodes.Streaming.{fed_all_first, fed_all_next, fed_all_last, fed_all_done}
use Rattle.document.proofs.nodes.links.link_nodes.Goals as goal

pub overflow_cast-nodes : goal.overflow_cast-nodes
overflow_cast-nodes c = omega (arith, c.requires)

pub loop-node-init : goal.loop-node-init
loop-node-init c =
    let a = c.args in
    let filled = c.fill in
    let n = length a.parents.now in (
      filled.auto.list,
      λ o f h. begins_any c.unwrap_or-element.ensures c.enter.ensures f
          (fed_all_first (link_past n) n a.word.now o, fed_all_first link_parents filled.new.list a.word.now o),
    )

pub loop-node-preserved : goal.loop-node-preserved
loop-node-preserved c =
    let l = c.loop-node in
    let filled = c.fill in
    let a = c.args in
    let s = a.s.now in
    let q = c.in-Some.q in
    let k = c.link_list-past in
    let n = length a.parents.now in
    let next = c.following_past-element.ensures (gather_past s q _ c.gather.ensures) in (
      k.auto.parents ∙ l.invariant.0,
      λ o f h. goes (l.invariant.1 o f h) c.in-Some.is next (λ j is t p.
          let fed = k.ensures (field_of a.word.now j) (gather_member s q _ c.gather.ensures t 0 (omega arith) (omega arith)) in (
            fed_all_next (link_past n) n a.word.now o (fed.0 ∙ rw l.invariant.0 refl) p.0,
            fed_all_next link_parents filled.new.list a.word.now o fed.1 p.1,
          )),
    )

pub returns-after-loop-node : goal.returns-after-loop-node
unfolding children_past children_parents
returns-after-loop-node c = λ o f h.
    let a = c.args in
    let word = a.word.now in
    let n = length a.parents.now in
    let g = c.loop-node.invariant.1 o f h in
    let few : length (lists_of word o) ≤ c.loop-node.node = omega (arith, h, c.loop-node-test.false) in
    let p = fed_all_done (link_past n) n word o few g.holds.0 in
    let q = fed_all_done link_parents c.fill.new.list word o few g.holds.1 in
    let parents = fed_all_last link_parents c.fill.new.list word o q in
    (rw h (fed_all_last (link_past n) n word o p), parents ∙ rw (h, c.fill.ensures) refl)
