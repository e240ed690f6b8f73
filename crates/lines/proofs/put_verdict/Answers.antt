-- `lines::put_verdict` meets its contract. Assumes nothing.
use native.Mathlib.Omega.{arith}
use Rattle.lines.specs.Report.{verdict_line}
use Rattle.lines.proofs.Stores.{put_two}
use Rattle.lines.proofs.Texts.{field_length, verdict_length}
use Rattle.lines.proofs.put_verdict.Goals as goal

pub put_field-a-requires : goal.put_field-a-requires
put_field-a-requires c =
    simp field_length (omega (arith, c.requires, verdict_length c.args.s.verdict c.args.s.item))

pub put_field-b-requires : goal.put_field-b-requires
put_field-b-requires c =
    let p = c.put_field-a in
    simp field_length (omega (arith, c.requires, verdict_length c.args.s.verdict c.args.s.item, simp field_length at p.ensures.ends, p.auto.out))

pub put-requires : goal.put-requires
put-requires c =
    let q = c.put_field-b in
    let p = c.put_field-a in
    omega (arith, c.requires, verdict_length c.args.s.verdict c.args.s.item, simp field_length at p.ensures.ends, p.auto.out, simp field_length at q.ensures.ends, q.auto.out)

pub returns : goal.returns
unfolding verdict_line
returns c =
    put_two (put_two c.put_field-a.ensures c.put_field-b.ensures) c.put.ensures
