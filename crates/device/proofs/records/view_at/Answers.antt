use Prim.Native.Nat.{◌<◌, min}
use native.Mathlib.Omega.{arith}
use Rattle.device.proofs.Concerned.{view_record}
use Rattle.device.proofs.records.view_at.Goals as goal

pub returns : goal.returns
returns c =
    let e = c.min-last.ensures in
    let low : min c.args.i 63 < 64 = omega arith in
    rw (c.view_from.ensures, e, view_record c.args.words.now (min c.args.i 63) low)
