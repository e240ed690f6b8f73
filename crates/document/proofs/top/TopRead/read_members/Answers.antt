-- `document::top::TopRead::read_members` meets its contract. Where empty_array_accepted plants, `grind arith` takes the value from
-- the facts, so that a wrong one is refused by what it says. Assumes nothing.
use mathlib.Core.Path.{◌≡◌, refl, sym, ap, ◌∙◌}
use native.Mathlib.Omega.{arith}
use Rattle.std.specs.Prelude.{Ok}
use mathlib.Core.Bool.{true, false}
use Rattle.nav.specs.Members.{field_of}
use Rattle.document.specs.Names.{'buffers', 'bufferViews', 'accessors', 'nodes', 'scenes', 'scene'}
use Rattle.document.specs.Members.{optional}
use Rattle.document.specs.Arrays.{is_array_of}
use Rattle.document.specs.Buffers.{is_buffer, buffers_in}
use Rattle.document.specs.Views.{is_view, views_in}
use Rattle.document.specs.Accessors.{is_accessor, accessors_in}
use Rattle.document.specs.Lists.{nodes_good, scenes_good}
use Rattle.document.specs.declared.top.TopRead.{TopRead}
use Rattle.document.specs.Tops.{buffers, views, accessors}
use Rattle.document.proofs.Fitting.{kinds}
use Rattle.document.proofs.Keeping.{kept_ok, kept_err, held_ok, held_err}
use Rattle.document.proofs.Tops.{number_is, tops_err, tops_ok, lists_ok, lists_err}
use Rattle.document.proofs.top.TopRead.read_members.Goals as goal
use Rattle.document.proofs.top.TopRead.read_members.Goals.{In_ok-views}

-- what `read` answers where the views are read
views-are : (c : In_ok-views) → c.read-2.result ≡ Ok c.in_ok-views.views
views-are c = grind arith

pub returns-in_err-buffers : goal.returns-in_err-buffers
returns-in_err-buffers c = λ j p.
    let g0 : is_array_of is_buffer (field_of 'buffers' j) ≡ false = kept_err _ (c.read.ensures (field_of 'buffers' j) (p 2 (omega arith))) (held_err _ c.in_err-buffers.was) in
    tops_err _ _ j c.from_residual.ensures.0 (sym (kinds j) ∙ rw g0 refl)

pub returns-in_err-views : goal.returns-in_err-views
returns-in_err-views c = λ j p.
    let g0 : is_array_of is_buffer (field_of 'buffers' j) ≡ true = (kept_ok (c.read.ensures (field_of 'buffers' j) (p 2 (omega arith))) (held_ok _ c.in_ok-buffers.was)).0 in
    let g1 : is_array_of is_view (field_of 'bufferViews' j) ≡ false = kept_err _ (c.read-2.ensures (field_of 'bufferViews' j) (p 3 (omega arith))) (held_err _ (grind arith)) in
    tops_err _ _ j c.from_residual-in_err-views.ensures.0 (sym (kinds j) ∙ rw (g0, g1) refl)

pub returns-in_err-accessors : goal.returns-in_err-accessors
returns-in_err-accessors c = λ j p.
    let g0 : is_array_of is_buffer (field_of 'buffers' j) ≡ true = (kept_ok (c.read.ensures (field_of 'buffers' j) (p 2 (omega arith))) (held_ok _ c.in_ok-buffers.was)).0 in
    let g1 : is_array_of is_view (field_of 'bufferViews' j) ≡ true = (kept_ok (c.read-2.ensures (field_of 'bufferViews' j) (p 3 (omega arith))) (held_ok _ (views-are (goal.at.returns-in_err-accessors c).In_ok-views))).0 in
    let g2 : is_array_of is_accessor (field_of 'accessors' j) ≡ false = kept_err _ (c.read-3.ensures (field_of 'accessors' j) (p 4 (omega arith))) (held_err _ c.in_err-accessors.was) in
    tops_err _ _ j c.from_residual-in_err-accessors.ensures.0 (sym (kinds j) ∙ rw (g0, g1, g2) refl)

pub returns-in_err-nodes : goal.returns-in_err-nodes
returns-in_err-nodes c = λ j p.
    let g0 : is_array_of is_buffer (field_of 'buffers' j) ≡ true = (kept_ok (c.read.ensures (field_of 'buffers' j) (p 2 (omega arith))) (held_ok _ c.in_ok-buffers.was)).0 in
    let g1 : is_array_of is_view (field_of 'bufferViews' j) ≡ true = (kept_ok (c.read-2.ensures (field_of 'bufferViews' j) (p 3 (omega arith))) (held_ok _ (views-are (goal.at.returns-in_err-nodes c).In_ok-views))).0 in
    let g2 : is_array_of is_accessor (field_of 'accessors' j) ≡ true = (kept_ok (c.read-3.ensures (field_of 'accessors' j) (p 4 (omega arith))) (held_ok _ c.in_ok-accessors.was)).0 in
    let g3 : nodes_good (field_of 'nodes' j) ≡ false = lists_err {n = 128} {m = 128} (c.read_lists.ensures 128 128 (ap (λ (m : TopRead). m.nodes.lists) c.requires) (ap (λ (m : TopRead). m.nodes.entries) c.requires) (field_of 'nodes' j) (p 5 (omega arith))) (held_err _ c.in_err-nodes.was) in
    tops_err _ _ j c.from_residual-in_err-nodes.ensures.0 (sym (kinds j) ∙ rw (g0, g1, g2, g3) refl)

pub returns-in_err-scenes : goal.returns-in_err-scenes
returns-in_err-scenes c = λ j p.
    let g0 : is_array_of is_buffer (field_of 'buffers' j) ≡ true = (kept_ok (c.read.ensures (field_of 'buffers' j) (p 2 (omega arith))) (held_ok _ c.in_ok-buffers.was)).0 in
    let g1 : is_array_of is_view (field_of 'bufferViews' j) ≡ true = (kept_ok (c.read-2.ensures (field_of 'bufferViews' j) (p 3 (omega arith))) (held_ok _ (views-are (goal.at.returns-in_err-scenes c).In_ok-views))).0 in
    let g2 : is_array_of is_accessor (field_of 'accessors' j) ≡ true = (kept_ok (c.read-3.ensures (field_of 'accessors' j) (p 4 (omega arith))) (held_ok _ c.in_ok-accessors.was)).0 in
    let g3 : nodes_good (field_of 'nodes' j) ≡ true = (lists_ok {n = 128} {m = 128} (c.read_lists.ensures 128 128 (ap (λ (m : TopRead). m.nodes.lists) c.requires) (ap (λ (m : TopRead). m.nodes.entries) c.requires) (field_of 'nodes' j) (p 5 (omega arith))) (held_ok _ c.in_ok-nodes.was)).0 in
    let g4 : scenes_good (field_of 'scenes' j) ≡ false = lists_err {n = 8} {m = 1024} (c.read_lists-2.ensures 8 1024 (ap (λ (m : TopRead). m.scenes.lists) c.requires) (ap (λ (m : TopRead). m.scenes.entries) c.requires) (field_of 'scenes' j) (p 6 (omega arith))) (held_err _ c.in_err-scenes.was) in
    tops_err _ _ j c.from_residual-in_err-scenes.ensures.0 (sym (kinds j) ∙ rw (g0, g1, g2, g3, g4) refl)

pub returns-in_err-scene : goal.returns-in_err-scene
returns-in_err-scene c = λ j p.
    let g0 : is_array_of is_buffer (field_of 'buffers' j) ≡ true = (kept_ok (c.read.ensures (field_of 'buffers' j) (p 2 (omega arith))) (held_ok _ c.in_ok-buffers.was)).0 in
    let g1 : is_array_of is_view (field_of 'bufferViews' j) ≡ true = (kept_ok (c.read-2.ensures (field_of 'bufferViews' j) (p 3 (omega arith))) (held_ok _ (views-are (goal.at.returns-in_err-scene c).In_ok-views))).0 in
    let g2 : is_array_of is_accessor (field_of 'accessors' j) ≡ true = (kept_ok (c.read-3.ensures (field_of 'accessors' j) (p 4 (omega arith))) (held_ok _ c.in_ok-accessors.was)).0 in
    let g3 : nodes_good (field_of 'nodes' j) ≡ true = (lists_ok {n = 128} {m = 128} (c.read_lists.ensures 128 128 (ap (λ (m : TopRead). m.nodes.lists) c.requires) (ap (λ (m : TopRead). m.nodes.entries) c.requires) (field_of 'nodes' j) (p 5 (omega arith))) (held_ok _ c.in_ok-nodes.was)).0 in
    let g4 : scenes_good (field_of 'scenes' j) ≡ true = (lists_ok {n = 8} {m = 1024} (c.read_lists-2.ensures 8 1024 (ap (λ (m : TopRead). m.scenes.lists) c.requires) (ap (λ (m : TopRead). m.scenes.entries) c.requires) (field_of 'scenes' j) (p 6 (omega arith))) (held_ok _ c.in_ok-scenes.was)).0 in
    let g5 : (optional 'scene' j).good ≡ false = kept_err _ (c.optional.ensures (field_of 'scene' j) (p 7 (omega arith))) c.in_err-scene.was in
    tops_err _ _ j c.from_residual-in_err-scene.ensures.0 (sym (kinds j) ∙ rw (g0, g1, g2, g3, g4, g5) refl)

pub returns : goal.returns
unfolding buffers_in views_in accessors_in
returns c = λ j p.
    let k0 = kept_ok (c.read.ensures (field_of 'buffers' j) (p 2 (omega arith))) (held_ok _ c.in_ok-buffers.was) in
    let g0 : is_array_of is_buffer (field_of 'buffers' j) ≡ true = k0.0 in
    let k1 = kept_ok (c.read-2.ensures (field_of 'bufferViews' j) (p 3 (omega arith))) (held_ok _ (views-are (goal.at.returns c).In_ok-views)) in
    let g1 : is_array_of is_view (field_of 'bufferViews' j) ≡ true = k1.0 in
    let k2 = kept_ok (c.read-3.ensures (field_of 'accessors' j) (p 4 (omega arith))) (held_ok _ c.in_ok-accessors.was) in
    let g2 : is_array_of is_accessor (field_of 'accessors' j) ≡ true = k2.0 in
    let k3 = lists_ok {n = 128} {m = 128} (c.read_lists.ensures 128 128 (ap (λ (m : TopRead). m.nodes.lists) c.requires) (ap (λ (m : TopRead). m.nodes.entries) c.requires) (field_of 'nodes' j) (p 5 (omega arith))) (held_ok _ c.in_ok-nodes.was) in
    let g3 : nodes_good (field_of 'nodes' j) ≡ true = k3.0 in
    let k4 = lists_ok {n = 8} {m = 1024} (c.read_lists-2.ensures 8 1024 (ap (λ (m : TopRead). m.scenes.lists) c.requires) (ap (λ (m : TopRead). m.scenes.entries) c.requires) (field_of 'scenes' j) (p 6 (omega arith))) (held_ok _ c.in_ok-scenes.was) in
    let g4 : scenes_good (field_of 'scenes' j) ≡ true = k4.0 in
    let k5 = kept_ok (c.optional.ensures (field_of 'scene' j) (p 7 (omega arith))) c.in_ok-scene.was in
    let g5 : (optional 'scene' j).good ≡ true = k5.0 in
    tops_ok j (sym (kinds j) ∙ rw (g0, g1, g2, g3, g4, g5) refl)
    (record {
      buffers_are = ap buffers (sym k0.1) ∙ rw g0 refl;
      views_are = ap views (sym k1.1) ∙ rw g1 refl;
      accessors_are = ap accessors (sym k2.1) ∙ rw g2 refl;
      nodes_are = record { good = sym g3; count = k3.1; packed = k3.2 };
      scenes_are = record { good = sym g4; count = k4.1; packed = k4.2 };
      scene_is = number_is (field_of 'scene' j) g5 k5.1;
    })
