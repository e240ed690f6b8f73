use mathlib.Core.Path.{sym}
use Prim.Native.Nat.{◌-◌}
use native.Mathlib.Nat.{mul-le-mul}
use native.Mathlib.Omega.{arith}
use Rattle.tables.proofs.Elements.{no_type, vector_count, matrix_count}
use Rattle.tables.proofs.layout.component_count.Goals as goal

pub returns-then-element_type-gt7 : goal.returns-then-element_type-gt7
returns-then-element_type-gt7 c =
    sym (no_type _ c.if-element_type-gt7.true)

pub returns-then-element_type-lt5 : goal.returns-then-element_type-lt5
returns-then-element_type-lt5 c =
    vector_count _ c.if-element_type-lt5.true

pub overflow_mul-result : goal.overflow_mul-result
overflow_mul-result c =
    let t = c.args.element_type in
    omega (arith, mul-le-mul {n₁ = t - 3} {m₁ = t - 3} {n₂ = 4} {m₂ = 4} (omega arith) (omega arith))

pub returns : goal.returns
returns c =
    matrix_count _ c.if-element_type-lt5.false c.if-element_type-gt7.false
