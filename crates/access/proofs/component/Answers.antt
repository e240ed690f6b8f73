-- Where accessor_equal_to_the_count_answered plants, `grind` takes the test from the facts, so that a wrong one is refused by what it says.
use mathlib.Core.Path.{◌≡◌}
use mathlib.Core.Bool.{true, false, ◌||◌}
use lib.Dec.{leb}
use native.Mathlib.Omega.{arith}
use Rattle.std.proofs.lemmas.Bool.Decides.{nat_tests}
use Rattle.access.specs.Readings.{component_of}
use Rattle.access.proofs.component.Goals as goal

pub returns-then-t-accessor : goal.returns-then-t-accessor
unfolding component_of
returns-then-t-accessor c =
    let a = c.args in
    let e : (leb a.t.accessors a.accessor || leb 128 a.accessor) ≡ true = grind (arith, nat_tests, c.if-t-accessor.true) in
    rw e

pub returns : goal.returns
unfolding component_of
returns c =
    let a = c.args in
    let e : (leb a.t.accessors a.accessor || leb 128 a.accessor) ≡ false = grind (arith, nat_tests, c.if-t-accessor.false) in
    rw (c.component_in.ensures, c.select-s.ensures, e)
