use mathlib.Core.Path.{◌≡◌}
use native.Mathlib.Nat.{mod-one}
use Rattle.tables.specs.Accessors.{uneven, misplaced}
use Rattle.tables.proofs.Elements.{one_left}
use Rattle.tables.proofs.selection.is_unaligned.Goals as goal

pub returns-then-m-eq4 : goal.returns-then-m-eq4
unfolding misplaced uneven
returns-then-m-eq4 c = rw c.if-m-eq4.true

pub returns-then-m-eq2 : goal.returns-then-m-eq2
unfolding misplaced uneven
returns-then-m-eq2 c = rw c.if-m-eq2.true

pub returns : goal.returns
unfolding misplaced uneven
returns c =
    let a = c.args in
    let one : a.m ≡ 1 = one_left a.m c.requires c.if-m-eq4.false c.if-m-eq2.false in
    rw (one, mod-one, mod-one)
