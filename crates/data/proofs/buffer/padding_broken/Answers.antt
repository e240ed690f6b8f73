use Prim.Native.Nat.{◌+◌, ◌-◌}
use mathlib.Core.Path.{◌≡◌, sym, ap}
use mathlib.Core.Bool.{false, not}
use native.Mathlib.Omega.{arith}
use borrow.Author.Count.{below_more}
use borrow.Author.Tests.{ne_eqb, eq-eqb}
use Rattle.laws.proofs.Search.{any_yes, any_none}
use Rattle.data.specs.Buffer.{is_stray, rule20}
use Rattle.data.proofs.buffer.padding_broken.Goals as goal

pub loop-k-init : goal.loop-k-init
loop-k-init c = (omega arith, λ j l. absurd (omega arith))

pub returns-then-byte_at-ne0 : goal.returns-then-byte_at-ne0
unfolding rule20
returns-then-byte_at-ne0 c =
    let a = c.args in
    let k = c.loop-k.k in
    let e : a.byte_length + (k - a.byte_length) ≡ k = omega arith in
    sym (any_yes (is_stray a.file.now a.start a.byte_length) (a.bin_length - a.byte_length) (k - a.byte_length) (omega arith)
    (rw e (rw (← c.byte_at.ensures) (ap not (ne_eqb _ 0 c.if-byte_at-ne0.true)))))

pub loop-k-preserved : goal.loop-k-preserved
loop-k-preserved c =
    let a = c.args in
    let k = c.loop-k.k in
    let e : a.byte_length + (k - a.byte_length) ≡ k = omega arith in
    let f : k + 1 - a.byte_length ≡ k - a.byte_length + 1 = omega arith in (
      omega arith,
      rw f (below_more (λ j. is_stray a.file.now a.start a.byte_length j ≡ false) (k - a.byte_length)
          c.loop-k.invariant.1
          (rw e (rw (← c.byte_at.ensures) (ap not (eq-eqb _ 0 c.if-byte_at-ne0.false))))),
    )

pub returns : goal.returns
unfolding rule20
returns c =
    let a = c.args in
    sym (any_none (is_stray a.file.now a.start a.byte_length) (a.bin_length - a.byte_length)
    (λ j l. c.loop-k.invariant.1 j (omega arith)))
