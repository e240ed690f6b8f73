use mathlib.Core.Path.{sym, ap, ◌∙◌}
use native.Mathlib.Omega.{arith}
use Rattle.tables.specs.Results.{broken_below}
use Rattle.std.proofs.lemmas.Result.{err_from_is_err_and}
use Rattle.tables.proofs.Answers.{kept, broken_now}
use Rattle.tables.proofs.accessors.element_fault.Goals as goal

pub returns-in_err-broken_if-3 : goal.returns-in_err-broken_if-3
returns-in_err-broken_if-3 c =
    let p = err_from_is_err_and c.from_residual-in_err-broken_if-3.result c.from_residual-in_err-broken_if-3.ensures.1 in
    let k₁ = kept _ 25 _ (sym c.broken_if.ensures ∙ c.in_ok-broken_if.was) in
    let k₂ = kept _ 26 _ (sym c.broken_if-2.ensures ∙ c.in_ok-broken_if-2.was) in
    let b = broken_now _ 27 _ (sym c.broken_if-3.ensures ∙ c.in_err-broken_if-3.was) in
    rw (p.1, p.2, b.1, k₁, k₂, b.0)

pub returns-then-has : goal.returns-then-has
returns-then-has c =
    let k₁ = kept _ 25 _ (sym c.broken_if.ensures ∙ c.in_ok-broken_if.was) in
    let k₂ = kept _ 26 _ (sym c.broken_if-2.ensures ∙ c.in_ok-broken_if-2.was) in
    let k₃ = kept _ 27 _ (sym c.broken_if-3.ensures ∙ c.in_ok-broken_if-3.was) in
    let k₄ = kept _ 28 _ (sym c.broken_if-4.ensures ∙ c.in_ok-broken_if-4.was) in
    let k₅ = kept _ 29 _ (sym c.broken_if-5.ensures ∙ c.in_ok-broken_if-5.was) in
    rw (c.place_fault.ensures, k₁, k₂, k₃, k₄, k₅, c.if-has.true) (ap (broken_below 34) (omega arith))
