use Prim.Native.Nat.{◌<◌, ◌≤◌}
use native.Mathlib.Nat.{mul-le-mul}
use native.Mathlib.Omega.{arith}
use borrow.Author.Tests.{le-ltb}
use Rattle.tables.specs.Elements.{component_count, component_place}
use Rattle.tables.proofs.Elements.{some_component, vector_place, matrix_place}
use Rattle.tables.proofs.layout.component_place.Goals as goal
use Rattle.tables.proofs.layout.component_place.Goals.{Else-component_count-component}

pub returns-then-component_count-component : goal.returns-then-component_count-component
unfolding component_place
returns-then-component_count-component c =
    rw (le-ltb _ _ (rw c.component_count.ensures at c.if-component_count-component.true))

there : (c : Else-component_count-component) → c.args.component < component_count c.args.element_type
there c = rw c.component_count.ensures at c.if-component_count-component.false

pub overflow_mul-result : goal.overflow_mul-result
overflow_mul-result c =
    let a = c.args in
    let k = some_component a.element_type a.component (there (goal.at.overflow_mul-result c).Else-component_count-component) in
    let s : a.size ≤ 4294967295 = omega arith in
    omega (arith, mul-le-mul {n₁ = a.component} {n₂ = 15} {m₂ = 4294967295} (omega arith) s)

pub returns-then-element_type-lt5 : goal.returns-then-element_type-lt5
returns-then-element_type-lt5 c =
    vector_place _ _ _ c.if-element_type-lt5.true (there (goal.at.returns-then-element_type-lt5 c).Else-component_count-component)

pub matrix_place-requires : goal.matrix_place-requires
matrix_place-requires c =
    let a = c.args in
    let k = some_component a.element_type a.component (there (goal.at.matrix_place-requires c).Else-component_count-component) in
    record { rows_nonzero = (omega arith, omega arith); component_bound = omega arith }

pub returns : goal.returns
returns c =
    let a = c.args in
    let h = there (goal.at.returns c).Else-component_count-component in
    rw c.matrix_place.ensures (matrix_place _ _ _ c.if-element_type-lt5.false (some_component a.element_type a.component h).0 h)
