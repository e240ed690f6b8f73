-- `lines::pieces::put_decimal` meets its contract. What is left to store, stored, gives the whole run. Assumes nothing.
use Prim.Native.Nat.{ℕ, suc, ◌+◌, ◌-◌}
use mathlib.Core.Path.{◌≡◌, refl, ◌∙◌}
use native.Mathlib.Omega.{arith}
use lib.ListN.{length, length-set}
use Rattle.lines.specs.Decimal.{decimal_of}
use Rattle.lines.proofs.Digits.{padded_none, padded_decimal}
use Rattle.lines.proofs.Stores.{digits_next}
use Rattle.lines.proofs.pieces.put_decimal.Goals as goal

pub loop-i-init : goal.loop-i-init
loop-i-init c =
    let a = c.args in
    let k : a.at + c.width.result - a.at ≡ length (decimal_of a.n) = omega (arith, c.width.ensures.0) in
    (refl, rw (k, padded_decimal (length (decimal_of a.n)) a.n refl))

pub loop-i-preserved : goal.loop-i-preserved
loop-i-preserved c =
    let l = c.loop-i in
    let at = c.args.at in
    let k : ℕ = l.i - 1 - at in
    let e : l.i - at ≡ suc k = omega arith in
    (simp length-set l.invariant.0, digits_next l.out at (l.i - 1) k l.rest (omega arith) ∙ rw (← e) l.invariant.1)

pub returns : goal.returns
returns c =
    let l = c.loop-i in
    let at = c.args.at in
    let k : l.i - at ≡ 0 = omega arith in
    record { ends = omega (arith, c.width.ensures.0); stored = rw (k, padded_none) at l.invariant.1 }
