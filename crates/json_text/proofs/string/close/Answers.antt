-- `json_text::string::close` meets its contract.
-- Assumes nothing.
use Rattle.std.proofs.Common.{arith}
use Rattle.json_text.proofs.Marks.{close_here, close_hidden, close_open, close_none}
use Rattle.json_text.proofs.string.close.Goals as goal
use Rattle.json_text.proofs.string.close.Goals.{then-hidden, else-hidden+else-s-i-eq34}

pub returns-then-s-i-eq34 : goal.returns-then-s-i-eq34
returns-then-s-i-eq34 c =
    let l = c.loop-i in
    let h = close_here c.args.s.now l.i c.loop-i-test.true c.if-s-i-eq34.true in
    omega (arith, h, rw c.if-hidden.false at l.invariant)

pub loop-i-preserved : goal.loop-i-preserved
loop-i-preserved c =
    let l = c.loop-i in
    elim c.if-hidden.branch [
      | then-hidden w ↦
          let h = close_hidden c.args.s.now l.i c.loop-i-test.true in
          rw w.hidden-is (omega (arith, h, rw w.if-hidden.true at l.invariant))
      | else-hidden+else-s-i-eq34 w ↦
          let h = close_open c.args.s.now l.i c.loop-i-test.true w.if-s-i-eq34.false in
          rw w.hidden-is (omega (arith, h, rw w.if-hidden.false at l.invariant))
    ]

pub returns : goal.returns
returns c =
    let l = c.loop-i in
    rw c.max.ensures
    (close_none c.args.s.now c.args.at l.i l.hidden c.loop-i-test.false l.auto.i-end l.invariant)
