-- `lines::pieces::put_field` meets its contract. Assumes nothing.
use native.Mathlib.Omega.{arith}
use Rattle.lines.specs.Report.{field}
use Rattle.lines.proofs.Stores.{put_two}
use Rattle.lines.proofs.Texts.{field_length}
use Rattle.lines.proofs.pieces.put_field.Goals as goal

pub put-a-requires : goal.put-a-requires
put-a-requires c =
    omega (arith, c.requires, field_length c.args.word.now c.args.n)

pub put_decimal-requires : goal.put_decimal-requires
put_decimal-requires c =
    let p = c.put-a in
    omega (arith, c.requires, field_length c.args.word.now c.args.n, p.ensures.ends, p.auto.out)

pub returns : goal.returns
unfolding field
returns c = put_two c.put-a.ensures c.put_decimal.ensures
