use mathlib.Core.Path.{sym, ◌∙◌}
use Rattle.std.proofs.lemmas.Result.{err_from_is_err_and}
use Rattle.tables.proofs.Faults.{answer_early, answer_late, answer_dense}
use Rattle.tables.proofs.accessors.accessor_fault.Goals as goal

pub returns-in_err-element_fault : goal.returns-in_err-element_fault
returns-in_err-element_fault c =
    let p = err_from_is_err_and c.from_residual.result c.from_residual.ensures.1 in
    let e = sym c.in_err-element_fault.was ∙ (rw c.layout_of-l.ensures at c.element_fault.ensures) in
    rw (p.1, p.2) (answer_early _ _ _ _ _ _ _ e)

pub returns-then-a : goal.returns-then-a
returns-then-a c =
    let e = sym c.in_ok-element_fault.was ∙ (rw c.layout_of-l.ensures at c.element_fault.ensures) in
    c.broken_if.ensures ∙ rw (c.sparse_fault-rule.ensures, c.layout_of-l.ensures) (answer_late _ _ _ _ _ _ _ e)

pub returns-else-a : goal.returns-else-a
returns-else-a c =
    let e = sym c.in_ok-element_fault.was ∙ (rw c.layout_of-l.ensures at c.element_fault.ensures) in
    answer_dense _ _ _ _ _ _ _ e c.if-a.false
