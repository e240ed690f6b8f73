-- `lines::report` meets its contract. Assumes nothing.
use native.Mathlib.Omega.{arith}
use mathlib.Core.Path.{ap}
use lib.ListN.{length, length-append}
use Rattle.lines.specs.Report.{verdict_line, counts_line}
use Rattle.lines.specs.Results.{report_on}
use Rattle.lines.proofs.Stores.{put_two}
use Rattle.lines.proofs.Texts.{report_refused, report_accepted, verdict_within, written, unwritten}
use Rattle.lines.proofs.report.Goals as goal
use Rattle.lines.proofs.report.Goals.{Start}

pub returns-then-out-report_length : goal.returns-then-out-report_length
returns-then-out-report_length c =
    let w = unwritten (report_on c.args.s) c.args.out.now (omega (arith, c.report_length.ensures.0)) in
    (w.0, w.1, omega (arith, c.report_length.ensures.0, c.report_length.ensures.1))

pub put_verdict-end-requires : goal.put_verdict-end-requires
unfolding report_on
put_verdict-end-requires c =
    let a = c.args.s in
    omega (arith, verdict_within a.verdict a.item a.views a.accessors a.nodes a.scenes)

pub put_counts-requires : goal.put_counts-requires
unfolding report_on
put_counts-requires c =
    let a = c.args.s in
    let p = c.put_verdict-end in
    let e = report_accepted a.verdict a.item a.views a.accessors a.nodes a.scenes c.if-s-eq0.true in
    omega (
      arith,
      ap length e,
      length-append (verdict_line a.verdict a.item) (counts_line a.views a.accessors a.nodes a.scenes),
      p.ensures.ends,
      p.auto.out,
      c.if-out-report_length.false,
      c.report_length.ensures.0,
    )

pub returns-then-s-eq0 : goal.returns-then-s-eq0
unfolding report_on
returns-then-s-eq0 c =
    let a = c.args.s in
    let e = report_accepted a.verdict a.item a.views a.accessors a.nodes a.scenes c.if-s-eq0.true in
    let w = written (omega (arith, ap length e, c.if-out-report_length.false, c.report_length.ensures.0)) (put_two c.put_verdict-end.ensures c.put_counts.ensures) in
    (rw e w.0, rw e w.1, omega (arith, c.report_length.ensures.0, c.report_length.ensures.1))

pub returns : goal.returns
unfolding report_on
returns c =
    let a = c.args.s in
    let e = report_refused a.verdict a.item a.views a.accessors a.nodes a.scenes c.if-s-eq0.false in
    let w = written (omega (arith, ap length e, c.if-out-report_length.false, c.report_length.ensures.0)) c.put_verdict-end.ensures in
    (rw e w.0, rw e w.1, omega (arith, c.report_length.ensures.0, c.report_length.ensures.1))
