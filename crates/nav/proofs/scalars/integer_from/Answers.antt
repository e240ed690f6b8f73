-- `nav::scalars::integer_from` meets its contract. Where fraction_taken_for_integer plants, `grind arith` takes the value from the
-- facts, so that a wrong one is refused by what it says.
-- Assumes nothing.
use native.Mathlib.Omega.{arith}
use Prim.Native.Nat.{◌+◌, ◌*◌, ◌-◌}
use mathlib.Core.Path.{◌≡◌, sym, ◌∙◌}
use lib.ListN.{get_or}
use Rattle.nav.proofs.Numerals.{from_zero, from_on, from_other, from_large, from_at, from_end, digit_is}
use Rattle.nav.proofs.scalars.integer_from.Goals as goal

pub loop-b-init : goal.loop-b-init
loop-b-init c = from_zero c.args.bytes.now

pub returns-then-not-is_ascii_digit : goal.returns-then-not-is_ascii_digit
returns-then-not-is_ascii_digit c =
    let l = from_at c.args.bytes.now c.loop-b.b-index c.loop-b.n (omega arith) c.loop-b.invariant in
    grind arith ∙ sym (from_other c.loop-b.n _ _ (sym c.is_ascii_digit.ensures.value ∙ c.if-not-is_ascii_digit.true)) ∙ l

pub returns-in_err-checked_mul : goal.returns-in_err-checked_mul
returns-in_err-checked_mul c =
    let b = get_or c.args.bytes.now c.loop-b.b-index 0 in
    let d = digit_is b (sym c.is_ascii_digit.ensures.value ∙ c.if-not-is_ascii_digit.false) in
    let l = from_at c.args.bytes.now c.loop-b.b-index c.loop-b.n (omega arith) c.loop-b.invariant in
    c.from_residual.ensures ∙ sym (from_large c.loop-b.n b _ d.0 d.1 (omega arith)) ∙ l

pub returns-in_err-n : goal.returns-in_err-n
returns-in_err-n c =
    let b = get_or c.args.bytes.now c.loop-b.b-index 0 in
    let d = digit_is b (sym c.is_ascii_digit.ensures.value ∙ c.if-not-is_ascii_digit.false) in
    let l = from_at c.args.bytes.now c.loop-b.b-index c.loop-b.n (omega arith) c.loop-b.invariant in
    c.from_residual-in_err-n.ensures ∙
    sym (from_large c.loop-b.n b _ d.0 d.1
    (omega arith)) ∙ l

pub loop-b-preserved : goal.loop-b-preserved
loop-b-preserved c =
    let b = get_or c.args.bytes.now c.loop-b.b-index 0 in
    let d = digit_is b (sym c.is_ascii_digit.ensures.value ∙ c.if-not-is_ascii_digit.false) in
    let l = from_at c.args.bytes.now c.loop-b.b-index c.loop-b.n (omega arith) c.loop-b.invariant in
    let m : c.in_ok-n.n ≡ 10 * c.loop-b.n + (b - 0x30) =
    omega arith in
    rw m (sym (from_on c.loop-b.n b _ d.0 d.1 (omega arith)) ∙ l)

pub returns : goal.returns
returns c = sym (from_end c.args.bytes.now c.loop-b.b-index c.loop-b.n (omega arith)) ∙ c.loop-b.invariant
