-- `lines::too_long` meets its contract. Assumes nothing.
use Rattle.lines.specs.Report.{too_long}
use Rattle.lines.proofs.Texts.{written, unwritten}
use Rattle.lines.proofs.too_long.Goals as goal

pub returns-then-out-lt28 : goal.returns-then-out-lt28
unfolding too_long
returns-then-out-lt28 c = unwritten too_long c.args.out.now c.if-out-lt28.true

pub returns : goal.returns
unfolding too_long
returns c = written c.if-out-lt28.false c.put.ensures
