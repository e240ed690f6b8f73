-- `lines::report_length` meets its contract. Assumes nothing.
use native.Mathlib.Omega.{arith}
use Rattle.lines.specs.Results.{report_on}
use Rattle.lines.proofs.Digits.{width_small}
use Rattle.lines.proofs.Texts.{length-refused, length-accepted}
use Rattle.lines.proofs.report_length.Goals as goal

pub returns-then-s-ne0 : goal.returns-then-s-ne0
unfolding report_on
returns-then-s-ne0 c =
    let a = c.args.s in
    let e = length-refused a.verdict a.item a.views a.accessors a.nodes a.scenes c.if-s-ne0.true in
    (omega (arith, e), omega arith)

pub returns : goal.returns
unfolding report_on
returns c =
    let a = c.args.s in
    let e = length-accepted a.verdict a.item a.views a.accessors a.nodes a.scenes c.if-s-ne0.false in
    (omega (arith, e), omega (arith, width_small a.verdict (omega (arith, c.if-s-ne0.false))))
