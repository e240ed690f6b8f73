-- `document::nodes::roots::root_list` meets its contract. Assumes nothing.
use mathlib.Core.Path.{refl, ◌∙◌}
use Rattle.nav.proofs.Navigation.{integer_stands}
use Rattle.graph.specs.Stream.{root_step, marked}
use Rattle.document.proofs.nodes.Going.{begins_any, goes, ends, falls}
use Rattle.document.proofs.nodes.Streaming.{entry_value, fed_first, fed_next, fed_last}
use Rattle.document.proofs.nodes.roots.root_list.Goals as goal

pub loop-element-init : goal.loop-element-init
loop-element-init c =
    let a = c.args in (
      refl,
      λ o f. begins_any c.unwrap_or-element.ensures c.enter.ensures f
          (fed_first (root_step a.parents.now) (marked a.first a.marks.now) o a.scene),
    )

pub loop-element-smaller : goal.loop-element-smaller
loop-element-smaller c = falls c.args.s.now c.in-Some.is c.integer_then-node.ensures.element

pub loop-element-preserved : goal.loop-element-preserved
loop-element-preserved c =
    let l = c.loop-element in
    let a = c.args in
    let k = c.root-found in (
      k.auto.marks ∙ l.invariant.0,
      λ o f. goes (l.invariant.1 o f) c.in-Some.is c.integer_then-node.ensures.element (λ j is t p.
          fed_next (root_step a.parents.now) (marked a.first a.marks.now) o
          (entry_value j (integer_stands t c.integer_then-node.ensures.integer) c.unwrap_or.ensures) (rw (k.ensures.0, k.ensures.1) refl) p),
    )

pub returns : goal.returns
returns c = λ o f.
    let a = c.args in
    fed_last (root_step a.parents.now) (marked a.first a.marks.now) o (ends (c.loop-element.invariant.1 o f) c.in_default.not-Some)
