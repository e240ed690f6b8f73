-- `nav::scalars::integer_then` meets its contract.
-- Assumes nothing.
use Prim.Native.Nat.{◌≤◌}
use native.Mathlib.Omega.{arith}
use lib.ListN.{length}
use Rattle.json_text.specs.Lengths.{value_shorter}
use Rattle.json_text.proofs.Laws.{said_past, later}
use Rattle.json_text.proofs.Ends.{value_said}
use Rattle.nav.proofs.Scanned.{failed}
use Rattle.nav.proofs.Numerals.{integer_of_lem, integer_none}
use Rattle.nav.proofs.Steps.{next_after, next_none}
use Rattle.nav.proofs.Computed.{next_answers}
use Rattle.nav.proofs.scalars.integer_then.Goals as goal
use Rattle.nav.proofs.scalars.integer_then.Goals.{In-Ok}

-- the value lies within the text
lies : (c : In-Ok) → (c.args.at ≤ c.in-Ok.past) × (c.in-Ok.past ≤ length c.args.s.now)
lies c =
    let a = c.args in
    let v = said_past (value_said a.s.now a.at 32 c.value_at.ensures) c.in-Ok.is in
    let l = later a.s.now a.at c.in-Ok.past v.0 (value_shorter v.1.1) in (omega arith, v.0)

pub slice_bounds-integer_from-count : goal.slice_bounds-integer_from-count
slice_bounds-integer_from-count c = (lies (goal.at.slice_bounds-integer_from-count c).In-Ok).0

pub slice_bounds-integer_from-start : goal.slice_bounds-integer_from-start
slice_bounds-integer_from-start c = (lies (goal.at.slice_bounds-integer_from-start c).In-Ok).0

pub slice_bounds-integer_from-end : goal.slice_bounds-integer_from-end
slice_bounds-integer_from-end c = (lies (goal.at.slice_bounds-integer_from-end c).In-Ok).1

pub returns-in-Ok-clause-integer : goal.returns-in-Ok-clause-integer
returns-in-Ok-clause-integer c =
    let a = c.args in
    let v = said_past (value_said a.s.now a.at 32 c.value_at.ensures) c.in-Ok.is in
    integer_of_lem a.s.now a.at c.in-Ok.past v.0 v.1 c.integer_from.ensures

pub returns-in-Ok-clause-step : goal.returns-in-Ok-clause-step
returns-in-Ok-clause-step c =
    let a = c.args in
    let v = (said_past (value_said a.s.now a.at 32 c.value_at.ensures) c.in-Ok.is).1 in
    next_answers a.at (next_after (omega arith) v.1 v.2 v.3 c.after_at.ensures)

pub returns-in-Err-clause-integer : goal.returns-in-Err-clause-integer
returns-in-Err-clause-integer c =
    let a = c.args in
    integer_none (failed (value_said a.s.now a.at 32 c.value_at.ensures) c.in-Err.is).2

pub returns-in-Err-clause-step : goal.returns-in-Err-clause-step
returns-in-Err-clause-step c =
    let a = c.args in
    next_answers a.at (next_none (failed (value_said a.s.now a.at 32 c.value_at.ensures) c.in-Err.is).2)
