-- What was written is the answer, by the input's length. Assumes nothing.
use mathlib.Core.Path.{◌∙◌, ap, sym}
use native.Mathlib.Omega.{arith}
use Rattle.lines.specs.Report.{too_long}
use Rattle.glb.specs.Results.{checked_of}
use Rattle.glb.proofs.Answered.{check_whole}
use Rattle.bench.specs.Bench.{lines_of}
use Rattle.bench.proofs.Answers.{answer_long, answer_checked, answered}
use Rattle.bench.proofs.answer.Goals as goal

pub returns-then-input-gt-LIMIT : goal.returns-then-input-gt-LIMIT
unfolding too_long
returns-then-input-gt-LIMIT c =
    let p = c.too_long.ensures in
    answered c.args.out.now (answer_long c.args.input.now (omega arith)) (omega (arith, c.requires)) c.unwrap_or.ensures p.0 p.1

pub returns : goal.returns
returns c =
    let p = c.report.ensures in
    let e = answer_checked c.args.input.now (omega arith) ∙ sym (c.summary.ensures ∙ ap (λ r. lines_of (checked_of r)) c.check.ensures ∙ ap lines_of (check_whole c.args.input.now)) in
    answered c.args.out.now e (omega (arith, c.requires, p.2)) c.unwrap_or-2.ensures p.0 p.1
