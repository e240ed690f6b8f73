-- `utf8::check` meets its contract. The loop's invariant: the length is that of what is left at i, and i more.
-- Assumes nothing.
use native.Mathlib.Omega.{arith}
use mathlib.Core.Path.{◌≡◌, sym, ◌∙◌}
use Rattle.std.proofs.Common.{Some, drop}
use Rattle.std.proofs.lemmas.Grind.{common_steps}
use Rattle.utf8.specs.Results.{some_width}
use Rattle.utf8.proofs.Turns.{ok_some, err_none, some_more, wide_turn, ends_here}
use Rattle.utf8.proofs.check.Goals as goal
use Rattle.utf8.proofs.check.Goals.{In_ok-i}

-- the character that stands at i
there : (c : In_ok-i) → Some c.in_ok-i.field-0 ≡ some_width (drop c.loop-i.i c.args.s.now)
there c = ok_some c.args.s.now c.loop-i.i c.width.result (record { place = c.loop-i.i }) _ c.width.ensures (sym c.ok_or.ensures.value ∙ c.in_ok-i.was)

pub loop-i-preserved : goal.loop-i-preserved
loop-i-preserved c = let w = there (goal.at.loop-i-preserved c).In_ok-i in wide_turn c.args.s.now c.loop-i.i _ c.loop-i.invariant w

pub loop-i-smaller : goal.loop-i-smaller
loop-i-smaller c =
    let w = there (goal.at.loop-i-smaller c).In_ok-i in
    omega (arith, some_more _ _ w, (wide_turn c.args.s.now c.loop-i.i _ c.loop-i.invariant w).0)

pub overflow_add-i-else-s-i-lt128 : goal.overflow_add-i-else-s-i-lt128
overflow_add-i-else-s-i-lt128 c =
    let w = there (goal.at.overflow_add-i-else-s-i-lt128 c).In_ok-i in
    omega (arith, (wide_turn c.args.s.now c.loop-i.i _ c.loop-i.invariant w).0)

pub returns-in_err-i : goal.returns-in_err-i
returns-in_err-i c =
    let e = err_none c.args.s.now c.loop-i.i c.width.result (record { place = c.loop-i.i }) c.in_err-i.field-0.0 c.width.ensures (sym c.ok_or.ensures.value ∙ c.in_err-i.was) in
    let f = ends_here c.args.s.now c.loop-i.i c.loop-i-test.true c.loop-i.invariant e.0 in
    grind (arith, common_steps)
