-- `nav::scalars::integer_at` meets its contract.
-- Assumes nothing.
use native.Mathlib.Omega.{arith}
use mathlib.Core.Path.{◌∙◌}
use Rattle.json_text.specs.Lengths.{value_shorter}
use Rattle.json_text.proofs.Laws.{said_past, later}
use Rattle.json_text.proofs.Ends.{value_said}
use Rattle.nav.proofs.Scanned.{failed, ok_some, ok_none}
use Rattle.nav.proofs.Numerals.{integer_of_lem, integer_none}
use Rattle.nav.proofs.scalars.integer_at.Goals as goal

pub returns-in_err-past : goal.returns-in_err-past
returns-in_err-past c =
    let a = c.args in
    let e = ok_none c.value_at.result c.ok.ensures.value c.in_err-past.was in
    c.from_residual.ensures ∙ integer_none (failed (value_said a.s.now a.at 32 c.value_at.ensures) e.1).2

pub slice_bounds-integer_from-count : goal.slice_bounds-integer_from-count
slice_bounds-integer_from-count c =
    let a = c.args in
    let e = ok_some c.value_at.result c.ok.ensures.value c.in_ok-past.was in
    let v = said_past (value_said a.s.now a.at 32 c.value_at.ensures) e in
    let l = later a.s.now a.at c.in_ok-past.past v.0 (value_shorter v.1.1) in
    omega arith

pub slice_bounds-integer_from-start : goal.slice_bounds-integer_from-start
slice_bounds-integer_from-start c =
    let a = c.args in
    let e = ok_some c.value_at.result c.ok.ensures.value c.in_ok-past.was in
    let v = said_past (value_said a.s.now a.at 32 c.value_at.ensures) e in
    let l = later a.s.now a.at c.in_ok-past.past v.0 (value_shorter v.1.1) in
    omega arith

pub slice_bounds-integer_from-end : goal.slice_bounds-integer_from-end
slice_bounds-integer_from-end c =
    let a = c.args in
    let e = ok_some c.value_at.result c.ok.ensures.value c.in_ok-past.was in
    (said_past (value_said a.s.now a.at 32 c.value_at.ensures) e).0

pub returns : goal.returns
returns c =
    let a = c.args in
    let e = ok_some c.value_at.result c.ok.ensures.value c.in_ok-past.was in
    let v = said_past (value_said a.s.now a.at 32 c.value_at.ensures) e in
    integer_of_lem a.s.now a.at c.in_ok-past.past v.0 v.1 c.integer_from.ensures
