-- `names::has_backslash` meets its contract. The loop's invariant: `Seen`.
-- Assumes nothing.
use native.Mathlib.Omega.{arith}
use Rattle.names.proofs.Strings.{seen_turn, seen_end}
use Rattle.names.proofs.has_backslash.Goals as goal

pub loop-b-preserved : goal.loop-b-preserved
loop-b-preserved c =
    seen_turn c.args.s.now c.loop-b.seen c.loop-b.b-index (omega arith) c.loop-b.invariant

pub returns : goal.returns
returns c =
    seen_end c.args.s.now c.loop-b.seen c.loop-b.b-index (omega arith) c.loop-b.invariant
