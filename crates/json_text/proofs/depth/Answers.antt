-- `json_text::depth` meets its contract.
-- Assumes nothing.
use Rattle.std.proofs.Common.{arith}
use Rattle.json_text.proofs.Counts.{over_string, over_open, over_close, over_other, at_passing, at_end, within, passes}
use Rattle.json_text.proofs.depth.Goals as goal
use Rattle.json_text.proofs.depth.Goals.{then-b-eq-MARK, else-b-eq-MARK+then-b+else-d-eq-LEVELS, else-b-eq-MARK+else-b+then-b-2, else-b-eq-MARK+else-b+else-b-2}

pub loop-i-preserved : goal.loop-i-preserved
loop-i-preserved c =
    let l = c.loop-i in
    let s = c.args.s.now in
    let t = c.loop-i-test.true in
    let h = l.invariant in
    elim c.if-b-eq-MARK.branch [
      | then-b-eq-MARK w ↦
          rw (w.i-is, w.d-is)
          (over_string 32 l.d s l.i t h w.close-i.result w.if-b-eq-MARK.true w.close-i.ensures)
      | else-b-eq-MARK+then-b+else-d-eq-LEVELS w ↦
          rw (w.i-is, w.d-is) (over_open 32 l.d s l.i t h w.if-b.true w.if-d-eq-LEVELS.false)
      | else-b-eq-MARK+else-b+then-b-2 w ↦
          rw (w.i-is, w.d-is, w.saturating_sub-d.ensures) (over_close 32 l.d s l.i t h w.if-b-2.true)
      | else-b-eq-MARK+else-b+else-b-2 w ↦
          rw (w.i-is, w.d-is) (over_other 32 l.d s l.i t h w.if-b-eq-MARK.false w.if-b.false w.if-b-2.false)
    ]

pub overflow_add-i-in-loop-i : goal.overflow_add-i-in-loop-i
overflow_add-i-in-loop-i c = let h = loop-i-preserved c in omega (arith, h.0)

pub returns-then-d-eq-LEVELS : goal.returns-then-d-eq-LEVELS
returns-then-d-eq-LEVELS c =
    let l = c.loop-i in
    let t = c.loop-i-test.true in
    passes 32 c.args.s.now l.i t (at_passing 32 l.d c.args.s.now l.i t l.invariant c.if-b.true c.if-d-eq-LEVELS.true)

pub returns : goal.returns
returns c = let l = c.loop-i in within 32 c.args.s.now (at_end 32 l.d c.args.s.now l.i c.loop-i-test.false l.invariant)
