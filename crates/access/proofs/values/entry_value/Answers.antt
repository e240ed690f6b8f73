use Prim.Native.Nat.{◌+◌, ◌*◌, ◌≤◌}
use mathlib.Core.Path.{◌≡◌, ◌∙◌}
use native.Mathlib.Omega.{arith}
use lib.ListN.{length}
use mir.Syntax.{w64}
use mir.ValLaws.{to_z-of_z}
use Rattle.tables.specs.Elements.{component_size}
use Rattle.tables.specs.Places.{value_at}
use Rattle.access.specs.Readings.{entry_value}
use Rattle.access.proofs.Fits.{entry_sum, component_size_lem, entry_fits}
use Rattle.access.proofs.values.entry_value.Goals as goal
use Rattle.access.proofs.values.entry_value.Goals.{After-place-at, After-sum-first}

-- what the calls give is the place of the component, ..
at : (c : After-sum-first)
    → let a = c.args in
    c.sum-first.result + a.f.element * a.k + c.component_place-inner.result ≡ value_at a.s a.k a.component
at c =
    let a = c.args in
    rw (c.sum-first.ensures, c.component_place-inner.ensures, c.requires.f_value) (entry_sum a.s a.k a.component)

-- the size is that of a component
size : (c : After-sum-first)
    → let a = c.args in
    a.f.component ≡ component_size a.s.accessor.component_type
size c = rw c.requires.f_value (component_size_lem c.args.s)

-- .. which lies within the file
lies : (c : After-sum-first)
    → let a = c.args in
    value_at a.s a.k a.component + component_size a.s.accessor.component_type ≤ length a.file.now
lies c =
    let a = c.args in
    entry_fits (length a.file.now) a.s c.requires.s_value c.requires.has_sparse_value a.k a.component c.requires.k_lt_count.0 c.requires.k_lt_count.1

pub place-at-requires : goal.place-at-requires
place-at-requires c = omega (arith, at c, lies c, c.well_formed.0)

-- the place that is read
spot : (c : After-place-at)
    → let a = c.args in
    c.place-at.result ≡ value_at a.s a.k a.component
spot c = c.place-at.ensures ∙ at (goal.at.number_at-requires c).After-sum-first

pub number_at-requires : goal.number_at-requires
number_at-requires c = let e = size (goal.at.number_at-requires c).After-sum-first in record { size_value = e; size_in_bounds = rw (spot c, e) (lies (goal.at.number_at-requires c).After-sum-first) }

pub returns : goal.returns
unfolding entry_value
returns c =
    to_z-of_z w64 c.number_at.result (record { sfits = c.number_at.type_inv })
    ∙ c.number_at.ensures
    ∙ rw (spot (goal.at.returns c).After-place-at)
