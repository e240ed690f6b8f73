use mathlib.Core.Path.{◌≡◌, sym, ap, ◌∙◌}
use mathlib.Core.Bool.{Bool, false, ◌&&◌}
use lib.ListN.{length}
use Rattle.tables.specs.declared.selection.Fit.{Fit}
use Rattle.tables.specs.Fitness.{accessor_unfit}
use Rattle.tables.specs.Stages.{own_fit, sparse_unfit}
use Rattle.tables.proofs.Unfits.{by_own, by_neither}
use Rattle.access.proofs.Staged.{unfit_in, own_without}
use Rattle.access.proofs.component_in.Goals as goal
use Rattle.access.proofs.component_in.Goals.{After-own_fit-fit, Else-s}

-- whether 63 is given, sparse aside
unfit : (c : After-own_fit-fit)
    → let a = c.args in
    c.own_fit-fit.result.unfit ≡ (own_fit (length a.file.now) a.s).unfit
unfit c = ap (λ (f : Fit). f.unfit) c.own_fit-fit.ensures

pub returns-then-fit : goal.returns-then-fit
returns-then-fit c =
    let a = c.args in
    sym (unfit_in a.file.now a.s a.element a.component
    (by_own (length a.file.now) a.s (sym (unfit (goal.at.returns-then-fit c).After-own_fit-fit) ∙ c.if-fit.true)))

pub sparse_in-requires : goal.sparse_in-requires
sparse_in-requires c = record { f_value = c.own_fit-fit.ensures; s_value = sym (unfit (goal.at.sparse_in-requires c).After-own_fit-fit) ∙ c.if-fit.false; has_sparse_value = c.if-s.true }

pub returns-then-s : goal.returns-then-s
returns-then-s c = c.sparse_in.ensures

-- 63 is not given
fit : (c : Else-s)
    → let a = c.args in accessor_unfit (length a.file.now) a.s ≡ false
fit c =
    let a = c.args in
    by_neither (length a.file.now) a.s (ap (λ (b : Bool). b && sparse_unfit a.s) c.if-s.false)
    (sym (unfit (goal.at.own_in-requires c).After-own_fit-fit) ∙ c.if-fit.false)

pub own_in-requires : goal.own_in-requires
own_in-requires c = record { s_value = fit c; f_value = c.own_fit-fit.ensures }

pub returns : goal.returns
returns c =
    let a = c.args in
    c.own_in.ensures
    ∙ own_without a.file.now a.s a.element a.component (fit (goal.at.returns c).Else-s) c.if-s.false
