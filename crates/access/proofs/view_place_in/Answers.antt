-- Where view_equal_to_the_count_found plants, `grind` takes the test from the facts, so that a wrong one is refused by what it says.
use mathlib.Core.Path.{◌≡◌}
use mathlib.Core.Bool.{true, false, ◌||◌}
use lib.Dec.{leb}
use native.Mathlib.Omega.{arith}
use Rattle.std.proofs.lemmas.Bool.Decides.{nat_tests}
use Rattle.access.specs.Views.{view_start, view_number_in}
use Rattle.access.proofs.view_place_in.Goals as goal
use Rattle.access.proofs.view_place_in.Goals.{Else-s-view}

pub returns-then-s-view : goal.returns-then-s-view
unfolding view_number_in
returns-then-s-view c =
    let a = c.args in
    let e : (leb a.s.extent.views a.view || leb 64 a.view) ≡ true = grind (arith, nat_tests, c.if-s-view.true) in
    record { number = rw e; place = rw e }

-- the view is one of them
one : (c : Else-s-view)
    → let a = c.args in
    (leb a.s.extent.views a.view || leb 64 a.view) ≡ false
one c = grind (arith, nat_tests, c.if-s-view.false)

pub returns-then-view_unfit : goal.returns-then-view_unfit
unfolding view_number_in
returns-then-view_unfit c =
    let e = one (goal.at.returns-then-view_unfit c).Else-s-view in
    record {
      number = rw (e, ← c.view_unfit.ensures, c.if-view_unfit.true);
      place = rw (e, ← c.view_unfit.ensures, c.if-view_unfit.true);
    }

pub returns : goal.returns
unfolding view_number_in view_start
returns c =
    let e = one (goal.at.returns c).Else-s-view in
    record {
      number = rw (e, ← c.view_unfit.ensures, c.if-view_unfit.false);
      place = rw (e, ← c.view_unfit.ensures, c.if-view_unfit.false);
    }
