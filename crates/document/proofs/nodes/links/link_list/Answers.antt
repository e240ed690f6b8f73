-- `document::nodes::links::link_list` meets its contract. Assumes nothing.
use mathlib.Core.Path.{refl, ◌∙◌}
use lib.ListN.{length}
use Rattle.nav.proofs.Navigation.{integer_stands}
use Rattle.graph.specs.Stream.{link_past, link_parents}
use Rattle.document.proofs.nodes.Going.{begins_any, goes, ends, falls}
use Rattle.document.proofs.nodes.Streaming.{entry_value, fed_first, fed_next, fed_last}
use Rattle.document.proofs.nodes.links.link_list.Goals as goal

pub loop-element-init : goal.loop-element-init
loop-element-init c =
    let a = c.args in
    let n = length a.parents.now in (
      refl,
      λ o f. begins_any c.unwrap_or-element.ensures c.enter.ensures f
          (fed_first (link_past n) a.first o a.node, fed_first link_parents a.parents.now o a.node),
    )

pub loop-element-smaller : goal.loop-element-smaller
loop-element-smaller c = falls c.args.s.now c.in-Some.is c.integer_then-child.ensures.element

pub loop-element-preserved : goal.loop-element-preserved
loop-element-preserved c =
    let l = c.loop-element in
    let a = c.args in
    let k = c.link-past in
    let n = length a.parents.now in (
      k.auto.parents ∙ l.invariant.0,
      λ o f. goes (l.invariant.1 o f) c.in-Some.is c.integer_then-child.ensures.element (λ j is t p.
          let e = entry_value j (integer_stands t c.integer_then-child.ensures.integer) c.unwrap_or.ensures in (
            fed_next (link_past n) a.first o e (k.ensures.0 ∙ rw l.invariant.0 refl) p.0,
            fed_next link_parents a.parents.now o e k.ensures.1 p.1,
          )),
    )

pub returns : goal.returns
returns c = λ o f.
    let a = c.args in
    let p = ends (c.loop-element.invariant.1 o f) c.in_default.not-Some in
    (fed_last (link_past (length a.parents.now)) a.first o p.0, fed_last link_parents a.parents.now o p.1)
