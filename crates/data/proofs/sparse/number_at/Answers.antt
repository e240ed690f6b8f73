use Prim.Native.Nat.{◌+◌, ◌*◌, ◌-◌}
use mathlib.Core.Path.{◌≡◌}
use native.Mathlib.Omega.{arith}
use Rattle.laws.specs.Bytes.{little_at}
use Rattle.laws.proofs.Bytes.{little_at-zero, little_at_lt, little_at-more}
use Rattle.data.proofs.Numbers.{power_le}
use Rattle.data.proofs.sparse.number_at.Goals as goal

pub loop-k-init : goal.loop-k-init
loop-k-init c =
    let a = c.args in
    let e : a.size - a.size ≡ 0 = omega arith in
    rw (e, little_at-zero a.file.now (a.at + a.size)) (omega arith)

pub overflow_mul-n : goal.overflow_mul-n
overflow_mul-n c =
    let m = c.args.size - c.loop-k.k in
    omega (arith, power_le m (omega (arith, c.requires)))

pub overflow_add-n : goal.overflow_add-n
overflow_add-n c =
    let m = c.args.size - c.loop-k.k in
    omega (arith, power_le m (omega (arith, c.requires)))

pub loop-k-preserved : goal.loop-k-preserved
loop-k-preserved c =
    let a = c.args in
    let e : c.loop-k.n * 256 + c.from.result ≡ little_at a.file.now (a.at + (c.loop-k.k - 1)) (a.size - (c.loop-k.k - 1)) =
    rw (c.from.ensures, c.byte_at.ensures, c.loop-k.invariant.0) (little_at-more a.file.now a.at a.size c.loop-k.k (omega arith) (omega arith)) in
    (e, rw e (little_at_lt a.file.now (λ j. (c.type_inv.file j).fits) _ _))

pub returns : goal.returns
returns c =
    let a = c.args in
    let z : c.loop-k.k ≡ 0 = omega arith in
    let p : a.at + 0 ≡ a.at = omega arith in
    let s : a.size - 0 ≡ a.size = omega arith in
    (rw (z, p, s) at c.loop-k.invariant.0, omega (arith, power_le (a.size - c.loop-k.k) (omega (arith, c.requires))))
