-- Where values_element_of_e plants, `omega arith` takes the value from the facts, so that a wrong one is refused by what it says.
use Prim.Native.Nat.{◌<◌}
use mathlib.Core.Path.{◌≡◌, refl, sym, ap, ◌∙◌}
use native.Mathlib.Omega.{arith}
use mathlib.Core.Bool.{false}
use lib.ListN.{length}
use borrow.Author.Rules.{rules}
use mir.Val.{SFits}
use mir.Syntax.{w64}
use mir.ValLaws.{to_z-of_z}
use Rattle.std.proofs.lemmas.Result.{err_from_is_err_and}
use Rattle.tables.specs.Elements.{component_count}
use Rattle.tables.specs.Fitness.{accessor_unfit}
use Rattle.tables.proofs.Unfits.{by_sparse, by_neither}
use Rattle.access.specs.declared.Reading.{Reading}
use Rattle.access.specs.Readings.{answered}
use Rattle.access.proofs.Staged.{unfit_in, own_below, own_refused, own_other, entry_in}
use Rattle.access.proofs.Results.{found_some, found_no, number_nonzero}
use Rattle.access.proofs.sparse_in.Goals as goal
use Rattle.access.proofs.sparse_in.Goals.{Else-sparse_unfit, In_ok-own}

pub returns-then-sparse_unfit : goal.returns-then-sparse_unfit
returns-then-sparse_unfit c =
    let a = c.args in
    sym (unfit_in a.file.now a.s a.element a.component
    (by_sparse (length a.file.now) a.s (sym c.sparse_unfit.ensures ∙ c.if-sparse_unfit.true)))

-- 63 is not given
fit : (c : Else-sparse_unfit)
    → let a = c.args in accessor_unfit (length a.file.now) a.s ≡ false
fit c =
    by_neither (length c.args.file.now) c.args.s (sym c.sparse_unfit.ensures ∙ c.if-sparse_unfit.false) c.requires.s_value

pub own_in-requires : goal.own_in-requires
own_in-requires c = record { s_value = fit c; f_value = c.requires.f_value }

pub returns-in_err-own : goal.returns-in_err-own
returns-in_err-own c =
    let a = c.args in
    let p = err_from_is_err_and c.from_residual.result c.from_residual.ensures.1 in
    rw (p.1, p.2)
    (c.in_err-own.ensures
    ∙ own_refused a.file.now a.s a.element a.component (fit (goal.at.returns-in_err-own c).Else-sparse_unfit)
    (λ z. number_nonzero _ (ap (λ (r : Reading). r.number) c.in_err-own.ensures ∙ z)))

-- where it is answered, element and component are below their counts
below : (c : In_ok-own)
    → let a = c.args in
    (a.element < a.s.accessor.count) × (a.component < component_count a.s.accessor.element_type)
below c =
    let a = c.args in
    own_below a.file.now a.s a.element a.component (sym (ap (λ (r : Reading). r.number) c.in_ok-own.ensures))

pub entry_for-requires : goal.entry_for-requires
entry_for-requires c =
    record { s_value = fit (goal.at.entry_for-requires c).Else-sparse_unfit; has_sparse_value = c.requires.has_sparse_value }

pub entry_value-requires : goal.entry_value-requires
entry_value-requires c =
    let p = c.requires in
    let e = found_some _ _ _ c.in-Some.ensures in
    record { s_value = fit (goal.at.entry_value-requires c).Else-sparse_unfit; f_value = p.f_value; has_sparse_value = p.has_sparse_value; k_lt_count = (omega (arith, e.1), (below (goal.at.entry_value-requires c).In_ok-own).1) }

pub returns-in-Some : goal.returns-in-Some
returns-in-Some c =
    let a = c.args in
    let e = found_some _ _ _ c.in-Some.ensures in
    ap answered (to_z-of_z w64 c.entry_value.result (record { sfits = c.entry_value.type_inv }) ∙ c.entry_value.ensures)
    ∙ entry_in a.file.now a.s a.element a.component (fit (goal.at.returns-in-Some c).Else-sparse_unfit) _ c.requires.has_sparse_value
    (omega (arith, e.0)) (omega (arith, e.1)) (below (goal.at.returns-in-Some c).In_ok-own)

pub returns-in-None : goal.returns-in-None
returns-in-None c =
    let a = c.args in
    let g : SFits w64 c.in_ok-own.own = search rules in
    ap answered (to_z-of_z w64 c.in_ok-own.own g)
    ∙ c.in_ok-own.ensures
    ∙ own_other a.file.now a.s a.element a.component (fit (goal.at.returns-in-None c).Else-sparse_unfit) _
    refl (found_no _ _ c.in-None.ensures)
