-- `glb::check_document` meets its contract. Assumes nothing.
use mathlib.Core.Path.{◌≡◌, sym, ◌∙◌}
use native.Mathlib.Omega.{arith}
use Rattle.std.specs.Prelude.{Ok, Err}
use Rattle.std.proofs.lemmas.Grind.{common_steps}
use Rattle.container.specs.Rules.{container_of}
use Rattle.container.specs.Results.{record_of, outcome_of as container_outcome}
use Rattle.document.specs.Said.{document_of}
use Rattle.glb.specs.Check.{json_of, placed_at}
use Rattle.glb.proofs.Ranges.{InFile, in_file, item_small}
use Rattle.glb.proofs.Answered.{opened, opened_none, text_err, Says, read_ok, chunk_read, graph_again, item_again, tables_laid, late_err, late_ok}
use Rattle.glb.proofs.check_document.Goals as goal
use Rattle.glb.proofs.check_document.Goals.{Start, In-Ok, After-place_buffer}

-- rules 1 to 8 hold
fine : (c : Start) → container_outcome (container_of c.args.file.now) ≡ Ok c.args.c
fine c = c.requires

within : (c : Start) → InFile c.args.file.now (record_of (Ok c.args.c))
within c = rw (opened c.args.file.now c.args.c (fine c)) (in_file c.args.file.now (opened_none c.args.file.now c.args.c (fine c)))

pub overflow_add-end : goal.overflow_add-end
unfolding record_of
overflow_add-end c = let r = within (goal.at.overflow_add-end c).Start in omega (arith, r.size, r.json)

pub slice_bounds-read-end : goal.slice_bounds-read-end
unfolding record_of
slice_bounds-read-end c = omega (arith, (within (goal.at.slice_bounds-read-end c).Start).json)

pub returns-in-Err : goal.returns-in-Err
returns-in-Err c =
    let f = c.args.file.now in
    let o = fine (goal.at.returns-in-Err c).Start in
    let k = rw (chunk_read f c.args.c o) at c.in-Err.ensures in
    let e = text_err f c.in-Err.fault (opened_none f c.args.c o) (sym k) in
    grind (arith, common_steps)

-- rules 9 to 18 hold
said : (c : In-Ok) → Says (document_of (json_of c.args.file.now (container_of c.args.file.now))) c.in-Ok.d
said c =
    let k = rw (chunk_read c.args.file.now c.args.c (fine (goal.at.In-Ok c).Start)) at c.in-Ok.ensures in
    read_ok _ c.in-Ok.d (sym k)

pub place_buffer-requires : goal.place_buffer-requires
unfolding record_of
place_buffer-requires c =
    let w = within (goal.at.place_buffer-requires c).Start in
    let s = c.bin_start.ensures in
    rw s (omega (arith, w.size, w.bin))

-- the tables are the definition's
tables-are : (c : After-place_buffer) → c.place_buffer.new.tables
    ≡ placed_at (container_of c.args.file.now).bin_start (document_of (json_of c.args.file.now (container_of c.args.file.now))).tables
unfolding record_of
tables-are c =
    let at = goal.at.After-place_buffer c in
    c.place_buffer.ensures
    ∙ tables_laid c.args.file.now c.args.c (fine at.Start) c.in-Ok.d (said at.In-Ok) c.bin_start.result (rw c.bin_start.ensures)

pub late_rule-requires-clause-graph_answer : goal.late_rule-requires-clause-graph_answer
late_rule-requires-clause-graph_answer c =
    let s = said (goal.at.late_rule-requires-clause-graph_answer c).In-Ok in rw s.graph (graph_again _)

pub late_rule-requires-clause-item_bound : goal.late_rule-requires-clause-item_bound
late_rule-requires-clause-item_bound c =
    let s = said (goal.at.late_rule-requires-clause-item_bound c).In-Ok in rw s.graph (item_again _ (item_small _))

pub returns-in_err-late_rule-in-Ok : goal.returns-in_err-late_rule-in-Ok
returns-in_err-late_rule-in-Ok c =
    let at = goal.at.returns-in_err-late_rule-in-Ok c in
    let k = rw (tables-are at.After-place_buffer) at c.late_rule.ensures in
    let found = c.in_err-late_rule-in-Ok.field-0.0 in
    let e = late_err c.args.file.now c.args.c (fine at.Start) c.in-Ok.d (said at.In-Ok) found (sym k ∙ c.in_err-late_rule-in-Ok.was) in
    let x : c.from_residual.result ≡ Err (record { rule = found.rule; item = found.item }) = grind (arith, common_steps) in
    rw x e

pub returns-in_ok-late_rule-in-Ok : goal.returns-in_ok-late_rule-in-Ok
returns-in_ok-late_rule-in-Ok c =
    let at = goal.at.returns-in_ok-late_rule-in-Ok c in
    let k = rw (tables-are at.After-place_buffer) at c.late_rule.ensures in
    rw (tables-are at.After-place_buffer)
    (late_ok c.args.file.now c.args.c (fine at.Start) c.in-Ok.d (said at.In-Ok) (sym k ∙ c.in_ok-late_rule-in-Ok.was))
