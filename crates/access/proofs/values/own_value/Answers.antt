-- Where element_0_repeated plants, `omega arith` takes the value from the facts, so that a wrong one is refused by what it says.
use Prim.Native.Nat.{◌+◌, ◌*◌, ◌≤◌}
use mathlib.Core.Path.{◌≡◌, sym, ◌∙◌}
use native.Mathlib.Omega.{arith}
use lib.ListN.{length}
use mir.Syntax.{w64}
use mir.ValLaws.{to_z-of_z}
use Rattle.tables.specs.Elements.{component_size}
use Rattle.tables.specs.Places.{component_at}
use Rattle.access.proofs.Fits.{own_sum, component_size_lem, own_fits}
use Rattle.access.proofs.Answers.{of_some, of_none}
use Rattle.access.proofs.values.own_value.Goals as goal
use Rattle.access.proofs.values.own_value.Goals.{After-place-at, After-sum-first, Then-a}

-- what the calls give is the place of the component, ..
at : (c : After-sum-first)
    → let a = c.args in
    c.sum-first.result + a.f.stride * a.element + c.component_place-inner.result
    ≡ component_at a.s a.element a.component
at c =
    let a = c.args in
    rw (c.sum-first.ensures, c.component_place-inner.ensures, c.requires.f_value) (own_sum a.s a.element a.component)

-- the size is that of a component
size : (c : Then-a)
    → let a = c.args in
    a.f.component ≡ component_size a.s.accessor.component_type
size c = rw c.requires.f_value (component_size_lem c.args.s)

-- .. which lies within the file
lies : (c : After-sum-first)
    → let a = c.args in
    component_at a.s a.element a.component + component_size a.s.accessor.component_type
    ≤ length a.file.now
lies c =
    let a = c.args in
    let p = c.requires in
    own_fits (length a.file.now) a.s p.s_value c.if-a.true
    a.element a.component p.element_lt_count.0 p.element_lt_count.1

pub place-at-requires : goal.place-at-requires
place-at-requires c =
    omega (arith, at c, lies c, c.well_formed.0)

-- the place that is read
spot : (c : After-place-at)
    → let a = c.args in
    c.place-at.result ≡ component_at a.s a.element a.component
spot c = omega (arith, c.place-at.ensures, at (goal.at.number_at-requires c).After-sum-first)

pub number_at-requires : goal.number_at-requires
number_at-requires c =
    let e = size (goal.at.number_at-requires c).Then-a in
    record { size_value = e; size_in_bounds = rw (spot c, e) (lies (goal.at.number_at-requires c).After-sum-first) }

pub returns-then-a : goal.returns-then-a
returns-then-a c =
    let a = c.args in
    to_z-of_z w64 c.number_at.result (record { sfits = c.number_at.type_inv })
    ∙ c.number_at.ensures
    ∙ rw (spot (goal.at.returns-then-a c).After-place-at)
    (sym (of_some a.file.now a.s a.element a.component c.if-a.true))

pub returns : goal.returns
returns c =
    let a = c.args in sym (of_none a.file.now a.s a.element a.component c.if-a.false)
