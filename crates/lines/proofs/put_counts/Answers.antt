-- `lines::put_counts` meets its contract. Assumes nothing.
use native.Mathlib.Omega.{arith}
use Rattle.lines.specs.Report.{counts_line}
use Rattle.lines.proofs.Stores.{put_two}
use Rattle.lines.proofs.Texts.{field_length, counts_length}
use Rattle.lines.proofs.put_counts.Goals as goal

pub put_field-a-requires : goal.put_field-a-requires
put_field-a-requires c =
    let s = c.args.s in
    simp field_length (omega (arith, c.requires, counts_length s.views s.accessors s.nodes s.scenes))

pub put_field-b-requires : goal.put_field-b-requires
put_field-b-requires c =
    let p1 = c.put_field-a in
    let s = c.args.s in
    simp field_length (omega (arith, c.requires, counts_length s.views s.accessors s.nodes s.scenes, simp field_length at p1.ensures.ends, p1.auto.out))

pub put_field-c-requires : goal.put_field-c-requires
put_field-c-requires c =
    let p2 = c.put_field-b in
    let p1 = c.put_field-a in
    let s = c.args.s in
    simp field_length (omega (arith, c.requires, counts_length s.views s.accessors s.nodes s.scenes, simp field_length at p1.ensures.ends, p1.auto.out, simp field_length at p2.ensures.ends, p2.auto.out))

pub put_field-d-requires : goal.put_field-d-requires
put_field-d-requires c =
    let p3 = c.put_field-c in
    let p2 = c.put_field-b in
    let p1 = c.put_field-a in
    let s = c.args.s in
    simp field_length (omega (arith, c.requires, counts_length s.views s.accessors s.nodes s.scenes, simp field_length at p1.ensures.ends, p1.auto.out, simp field_length at p2.ensures.ends, p2.auto.out, simp field_length at p3.ensures.ends, p3.auto.out))

pub put-requires : goal.put-requires
put-requires c =
    let p4 = c.put_field-d in
    let p3 = c.put_field-c in
    let p2 = c.put_field-b in
    let p1 = c.put_field-a in
    let s = c.args.s in
    omega (arith, c.requires, counts_length s.views s.accessors s.nodes s.scenes, simp field_length at p1.ensures.ends, p1.auto.out, simp field_length at p2.ensures.ends, p2.auto.out, simp field_length at p3.ensures.ends, p3.auto.out, simp field_length at p4.ensures.ends, p4.auto.out)

pub returns : goal.returns
unfolding counts_line
returns c =
    put_two
    (put_two
    (put_two (put_two c.put_field-a.ensures c.put_field-b.ensures) c.put_field-c.ensures)
    c.put_field-d.ensures)
    c.put.ensures
