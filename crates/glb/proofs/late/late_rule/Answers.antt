-- `glb::late::late_rule` meets its contract. Assumes nothing.
use mathlib.Core.Path.{◌≡◌, sym, ◌∙◌}
use native.Mathlib.Omega.{arith}
use Rattle.std.specs.Prelude.{Ok}
use Rattle.std.proofs.lemmas.Grind.{common_steps}
use Rattle.container.specs.Results.{record_of}
use Rattle.tables.specs.Results.{outcome_of}
use Rattle.tables.specs.Views.{views_finding}
use Rattle.tables.specs.Accessors.{accessors_finding}
use Rattle.graph.specs.Results.{fault_of}
use Rattle.data.specs.Sparse.{sparse_finding}
use Rattle.glb.specs.Check.{buffer_finding}
use Rattle.glb.proofs.Order.{buffer_err, views_err, accessors_err, sparse_err, graph_err, graph_found, graph_none, late_scene}
use Rattle.glb.proofs.late.late_rule.Goals as goal
use Rattle.glb.proofs.late.late_rule.Goals.{In_ok-check_buffer, In_ok-check_views, In_ok-check_accessors, In_ok-sparse_rule}

-- the groups that find nothing
buffer-ok : (c : In_ok-check_buffer)
    → outcome_of (buffer_finding c.args.file.now (record_of (Ok c.args.c)) c.args.t.now.buffers c.args.t.now.buffer_length) ≡ Ok tt
buffer-ok c = sym c.check_buffer.ensures ∙ c.in_ok-check_buffer.was

views-ok : (c : In_ok-check_views)
    → outcome_of (views_finding c.args.t.now.buffers c.args.t.now.buffer_length c.args.t.now.view_records c.args.t.now.views) ≡ Ok tt
views-ok c = sym c.check_views.ensures ∙ c.in_ok-check_views.was

accessors-ok : (c : In_ok-check_accessors)
    → outcome_of (accessors_finding c.args.t.now.views c.args.t.now.view_records c.args.t.now.accessor_records c.args.placed.now c.args.t.now.accessors) ≡ Ok tt
accessors-ok c = sym c.check_accessors.ensures ∙ c.in_ok-check_accessors.was

sparse-ok : (c : In_ok-sparse_rule)
    → outcome_of (sparse_finding c.args.file.now c.args.t.now.buffer_start c.args.t.now.accessor_records c.args.t.now.view_records c.args.t.now.accessors) ≡ Ok tt
sparse-ok c = sym c.sparse_rule.ensures ∙ c.in_ok-sparse_rule.was

pub returns-in_err-check_buffer : goal.returns-in_err-check_buffer
returns-in_err-check_buffer c =
    let a = c.args in
    let e = buffer_err a.file.now (record_of (Ok a.c)) a.t.now a.placed.now (fault_of a.graph) c.in_err-check_buffer.field-0.0
    (sym c.check_buffer.ensures ∙ c.in_err-check_buffer.was) in
    grind (arith, common_steps)

pub returns-in_err-check_views : goal.returns-in_err-check_views
returns-in_err-check_views c =
    let a = c.args in
    let at = goal.at.returns-in_err-check_views c in
    let e = views_err a.file.now (record_of (Ok a.c)) a.t.now a.placed.now (fault_of a.graph) (buffer-ok at.In_ok-check_buffer)
    c.in_err-check_views.field-0.0 (sym c.check_views.ensures ∙ c.in_err-check_views.was) in
    grind (arith, common_steps)

pub returns-in_err-check_accessors : goal.returns-in_err-check_accessors
returns-in_err-check_accessors c =
    let a = c.args in
    let at = goal.at.returns-in_err-check_accessors c in
    let e = accessors_err a.file.now (record_of (Ok a.c)) a.t.now a.placed.now (fault_of a.graph) (buffer-ok at.In_ok-check_buffer)
    (views-ok at.In_ok-check_views) c.in_err-check_accessors.field-0.0
    (sym c.check_accessors.ensures ∙ c.in_err-check_accessors.was) in
    grind (arith, common_steps)

pub returns-in_err-sparse_rule : goal.returns-in_err-sparse_rule
returns-in_err-sparse_rule c =
    let a = c.args in
    let at = goal.at.returns-in_err-sparse_rule c in
    let e = sparse_err a.file.now (record_of (Ok a.c)) a.t.now a.placed.now (fault_of a.graph) (buffer-ok at.In_ok-check_buffer)
    (views-ok at.In_ok-check_views) (accessors-ok at.In_ok-check_accessors) c.in_err-sparse_rule.field-0.0
    (sym c.sparse_rule.ensures ∙ c.in_err-sparse_rule.was) in
    grind (arith, common_steps)

pub overflow_cast-result : goal.overflow_cast-result
unfolding fault_of
overflow_cast-result c =
    let h = rw c.in-Err.is at c.requires.item_bound in
    omega arith

pub returns-in-Err : goal.returns-in-Err
returns-in-Err c =
    let a = c.args in
    let at = goal.at.returns-in-Err c in
    graph_err a.file.now (record_of (Ok a.c)) a.t.now a.placed.now (fault_of a.graph) (buffer-ok at.In_ok-check_buffer) (views-ok at.In_ok-check_views)
    (accessors-ok at.In_ok-check_accessors) (sparse-ok at.In_ok-sparse_rule) _
    (graph_found a.graph c.in-Err.fault c.requires.graph_answer c.in-Err.is)

pub returns : goal.returns
returns c =
    let a = c.args in
    let at = goal.at.returns c in
    c.check_scene.ensures
    ∙ late_scene a.file.now (record_of (Ok a.c)) a.t.now a.placed.now (fault_of a.graph) (buffer-ok at.In_ok-check_buffer) (views-ok at.In_ok-check_views)
    (accessors-ok at.In_ok-check_accessors) (sparse-ok at.In_ok-sparse_rule) (graph_none a.graph c.in_default.field-0 c.in_default.is)
