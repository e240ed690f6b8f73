use Prim.Native.Nat.{◌+◌, ◌*◌}
use mathlib.Core.Path.{sym, ap, ◌∙◌}
use native.Mathlib.Omega.{arith}
use lib.ListN.{get_or, take}
use lib.Seq.{take_all}
use Rattle.std.proofs.lemmas.List.Elements.{All-nil, All-more, All-same}
use Rattle.device.proofs.Rows.{put_written, rows_none, rows_more, rows_all}
use Rattle.device.proofs.put.put_records.Goals as goal

pub loop-i-init : goal.loop-i-init
loop-i-init g c =
    let a = c.args in
    (rows_none g.R.Record.words g.row.N g.met.R.Record.width a.words.now a.at a.records.now c.requires, All-nil g.R.Record.fits)

pub loop-i-preserved : goal.loop-i-preserved
loop-i-preserved g c =
    let a = c.args in
    let i = c.loop-i.i in
    let f = g.R.Record.words in
    let width = g.met.R.Record.width in
    let z = c.index-records-i.result in
    let r = get_or a.records.now i z in (
      put_written c.loop-i.words (a.at + g.row.N * i) _ (f r) _
          (c.copy_from_slice.ensures.after ∙ c.words.ensures.words ∙ ap f c.index-records-i.is)
          (omega (arith, width r))
          ∙ rw c.loop-i.invariant.0 (rows_more f g.row.N width a.words.now a.at a.records.now c.requires z i c.loop-i-test.true),
      All-more g.R.Record.fits a.records.now i z c.loop-i-test.true c.loop-i.invariant.1
          (rw c.index-records-i.is at c.words.ensures.fits),
    )

pub returns : goal.returns
returns g c =
    let a = c.args in
    let i = c.loop-i.i in record {
      words = c.loop-i.invariant.0
          ∙ rows_all g.R.Record.words g.row.N g.met.R.Record.width a.words.now a.at a.records.now c.requires i (omega arith);
      fit = All-same g.R.Record.fits a.records.now (take i a.records.now)
          (sym (take_all i a.records.now (omega arith))) c.loop-i.invariant.1;
    }
