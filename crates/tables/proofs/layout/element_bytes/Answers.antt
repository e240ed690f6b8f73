use Prim.Native.Nat.{ℕ, ◌+◌, ◌-◌}
use mathlib.Core.Path.{◌≡◌, sym, ap, ◌∙◌}
use native.Mathlib.Omega.{arith}
use Rattle.tables.specs.Elements.{element_bytes}
use Rattle.tables.proofs.Elements.{size_below, no_size, no_element, some_type, some_size, table, table_rule}
use Rattle.tables.proofs.layout.element_bytes.Goals as goal

pub returns-then-size-eq0 : goal.returns-then-size-eq0
returns-then-size-eq0 c =
    rw c.if-size-eq0.true (sym (no_size _))

pub returns-then-element_type : goal.returns-then-element_type
returns-then-element_type c =
    sym (no_element _ _ c.if-element_type.true)

pub overflow_sub-column : goal.overflow_sub-column
overflow_sub-column c =
    (some_type _ c.if-element_type.false).0

pub bounds-row : goal.bounds-row
bounds-row c =
    omega (arith, size_below c.args.size c.requires)

pub bounds-column : goal.bounds-column
bounds-column c =
    omega (arith, some_type c.args.element_type c.if-element_type.false)

pub returns : goal.returns
unfolding table
returns c =
    let a = c.args in
    let t = some_type a.element_type c.if-element_type.false in
    let next : a.element_type - 1 + 1 ≡ a.element_type = omega arith in
    c.from.ensures
    ∙ table_rule a.size (a.element_type - 1) (size_below a.size c.requires) (some_size a.size c.requires c.if-size-eq0.false) (omega arith)
    ∙ ap (λ (n : ℕ). element_bytes a.size n) next
