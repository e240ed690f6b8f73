-- `scene::lists::walk_lists` meets its contract. Assumes nothing.
use Prim.Native.Nat.{◌+◌, ◌-◌}
use mathlib.Core.Path.{◌≡◌, sym, ◌∙◌}
use native.Mathlib.Omega.{arith}
use lib.ListN.{get_or}
use Rattle.graph.specs.Packing.{PlacedAt}
use Rattle.graph.proofs.Placing.{packed_at}
use Rattle.scene.specs.Steps.{walk_lists}
use Rattle.scene.proofs.Fit.{Fit, fit, part_length, part_measured, part_kids, part_linked, part_rooted}
use Rattle.scene.proofs.lists.walk_lists.Goals as goal
use Rattle.scene.proofs.lists.walk_lists.Goals.{Else-is_refused}

-- past the test the lists are fit, ..
fits : (c : Else-is_refused)
    → (let a = c.args in
    Fit a.nodes.starts.now a.nodes.lengths.now a.nodes.entries.now a.nodes.count
    a.scenes.starts.now a.scenes.lengths.now a.scenes.entries.now a.scenes.count)
fits c = fit _ _ _ _ _ _ _ _ (sym c.is_refused.ensures ∙ c.if-is_refused.false)

-- .. and the scene's list is in its place
here : (c : Else-is_refused)
    → (let a = c.args in
    PlacedAt a.scenes.starts.now a.scenes.lengths.now a.scenes.entries.now a.scene)
here c = (fits c).scenes.lists _ c.requires

pub slice_bounds-tree-end : goal.slice_bounds-tree-end
slice_bounds-tree-end c = sym (part_length _ _ _ _ _ _ _ _ (fits (goal.at.slice_bounds-tree-end c).Else-is_refused))

pub slice_bounds-tree-end-2 : goal.slice_bounds-tree-end-2
slice_bounds-tree-end-2 c =
    sym (part_measured _ _ _ _ _ _ _ _ (fits (goal.at.slice_bounds-tree-end-2 c).Else-is_refused))

pub offset_bounds-scenes-scene : goal.offset_bounds-scenes-scene
offset_bounds-scenes-scene c =
    omega (arith, (fits (goal.at.offset_bounds-scenes-scene c).Else-is_refused).scenes.fits, c.requires)

pub bounds-scenes-scene : goal.bounds-scenes-scene
bounds-scenes-scene c = (here (goal.at.bounds-scenes-scene c).Else-is_refused).started

pub offset_bounds-scenes-scene-2 : goal.offset_bounds-scenes-scene-2
offset_bounds-scenes-scene-2 c =
    omega (arith, (fits (goal.at.offset_bounds-scenes-scene-2 c).Else-is_refused).scenes.fits, c.requires)

pub bounds-scenes-scene-2 : goal.bounds-scenes-scene-2
bounds-scenes-scene-2 c = (here (goal.at.bounds-scenes-scene-2 c).Else-is_refused).measured

pub slice_bounds-roots-end : goal.slice_bounds-roots-end
slice_bounds-roots-end c = omega (arith, (here (goal.at.slice_bounds-roots-end c).Else-is_refused).within)

pub invariant_of-tree : goal.invariant_of-tree
invariant_of-tree c =
    record { linked = part_linked _ _ _ _ _ _ _ _ (fits (goal.at.invariant_of-tree c).Else-is_refused) }

pub invariant_of-roots : goal.invariant_of-roots
invariant_of-roots c =
    let a = c.args in
    let start = get_or a.scenes.starts.now a.scene 0 in
    let size = get_or a.scenes.lengths.now a.scene 0 in
    let e : start + size - start ≡ size = omega arith in
    let ok = fits (goal.at.invariant_of-roots c).Else-is_refused in
    record { rooted = rw e (part_rooted _ _ _ _ _ _ _ _ ok a.scene c.requires) }

pub returns : goal.returns
unfolding walk_lists
returns c =
    let a = c.args in
    let start = get_or a.scenes.starts.now a.scene 0 in
    let size = get_or a.scenes.lengths.now a.scene 0 in
    let e : start + size - start ≡ size = omega arith in
    let ok = fits (goal.at.returns c).Else-is_refused in
    let r = rw (part_kids _ _ _ _ _ _ _ _ ok, e) at c.walk.ensures in
    let list = packed_at a.scenes.starts.now a.scenes.lengths.now a.scenes.entries.now a.scenes.count a.scene
    c.requires in
    rw (sym c.is_refused.ensures ∙ c.if-is_refused.false, list) r
