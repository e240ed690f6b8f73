-- `document::nodes::roots::root_scenes` meets its contract. Assumes nothing.
use native.Mathlib.Omega.{arith}
use mathlib.Core.Path.{refl, ap, ◌∙◌}
use Rattle.nav.specs.Members.{field_of}
use Rattle.nav.proofs.Navigation.{gather_member, gather_past}
use Rattle.graph.specs.Stream.{root_step, marked, Marked}
use Rattle.graph.proofs.Streams.{found_from}
use Rattle.document.specs.Lists.{lists_of}
use Rattle.document.proofs.nodes.Going.{begins_any, goes}
use Rattle.document.proofs.nodes.Streaming.{fed_all_first, fed_all_next, fed_all_last, fed_all_done}
use Rattle.document.proofs.nodes.roots.root_scenes.Goals as goal

pub loop-scene-init : goal.loop-scene-init
loop-scene-init c =
    let a = c.args in (
      refl,
      λ o f h. begins_any c.unwrap_or-element.ensures c.enter.ensures f
          (fed_all_first (root_step a.parents.now) (marked _ c.fill.new.list) a.word.now o),
    )

pub loop-scene-preserved : goal.loop-scene-preserved
loop-scene-preserved c =
    let l = c.loop-scene in
    let a = c.args in
    let s = a.s.now in
    let q = c.in-Some.q in
    let k = c.root_list-found in
    let next = c.following_past-element.ensures (gather_past s q _ c.gather.ensures) in (
      k.auto.marks ∙ l.invariant.0,
      λ o f h. goes (l.invariant.1 o f h) c.in-Some.is next (λ j is t p.
          fed_all_next (root_step a.parents.now) (marked _ c.fill.new.list) a.word.now o
          (k.ensures (field_of a.word.now j) (gather_member s q _ c.gather.ensures t 0 (omega arith) (omega arith))) p),
    )

pub returns-after-loop-scene : goal.returns-after-loop-scene
returns-after-loop-scene c = λ o f h.
    let a = c.args in
    let step = root_step a.parents.now in
    let none = marked _ c.fill.new.list in
    let g = c.loop-scene.invariant.1 o f h in
    let p = fed_all_done step none a.word.now o (omega (arith, h, c.loop-scene-test.false)) g.holds in
    ap (λ (m : Marked). m.found) (fed_all_last step none a.word.now o p)
    ∙ found_from a.parents.now (lists_of a.word.now o) a.scenes h (c.fill.ensures ∙ rw c.requires.marks_len refl)
