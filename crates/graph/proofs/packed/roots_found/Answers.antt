-- `graph::packed::roots_found` meets its contract. Assumes nothing.
use mathlib.Core.Path.{◌≡◌, refl, sym, ap, ◌∙◌}
use native.Mathlib.Omega.{arith}
use Rattle.graph.specs.Packing.{packed_lists, list_at}
use Rattle.graph.specs.Stream.{feed, root_step, marked, Marked}
use Rattle.graph.proofs.Placing.{packed_next, length-packed}
use Rattle.graph.proofs.Streams.{found_from}
use Rattle.graph.proofs.packed.roots_found.Goals as goal

pub loop-scene-preserved : goal.loop-scene-preserved
loop-scene-preserved c =
    let l = c.loop-scene in
    let lists = c.args.scenes.now.lists in
    let step = root_step c.args.parents.now in
    let n = lists.count in
    let start = marked (record { past = n; twice = n; parented = n }) c.fill.new.list in
    let list = list_at lists.starts.now lists.lengths.now lists.entries.now l.scene in
    c.root_list-found.ensures
    ∙ rw c.list_at.ensures
    (ap (λ (m : Marked). feed step m l.scene list) l.invariant
    ∙ sym (packed_next step start lists.starts.now lists.lengths.now lists.entries.now l.scene))

pub returns : goal.returns
returns c =
    let l = c.loop-scene in
    let lists = c.args.scenes.now.lists in
    let roots = packed_lists lists.starts.now lists.lengths.now lists.entries.now lists.count in
    let counted = length-packed lists.starts.now lists.lengths.now lists.entries.now lists.count in
    let e : l.scene ≡ lists.count = omega arith in
    ap (λ (m : Marked). m.found) (rw e at l.invariant)
    ∙ found_from c.args.parents.now roots lists.count counted (c.fill.ensures ∙ rw c.requires refl)
