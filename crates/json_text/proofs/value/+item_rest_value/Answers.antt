-- `json_text::value::item`, `rest` and `value` meet their contracts.
-- Assumes nothing.
use Rattle.std.proofs.Common.{◌<◌, drop, refl, ap, Ok, arith}
use Rattle.std.proofs.lemmas.Result.{err_from_is_err_and}
use Rattle.json_text.specs.Grammar.Value.{val_scalar}
use Rattle.json_text.specs.Grammar.Member.{member as member_of}
use Rattle.json_text.specs.Faults.NoValue.{val_in_scalar}
use Rattle.json_text.specs.Faults.NoMember.{member_in_name, member_in_value}
use Rattle.json_text.specs.Scans.Says.{says_deep}
use Rattle.json_text.specs.Parse.{flat}
use Rattle.json_text.proofs.Laws.{found, unfound, says_as, said_past, passed, more_at, end_at, bad_at, later}
use Rattle.json_text.proofs.Nests.{nest_none, nest_some, nest_more, nest_end, nest_bad, nest_in, nest_deep, item_shorter}
use Rattle.json_text.proofs.Nests.{closing_byte}
use Rattle.json_text.proofs.value.+item_rest_value.Goals as goal

pub value-returns-in-Some : goal.value-returns-in-Some
value-returns-in-Some t c =
    let h = c.in-Some.ensures in
    says_deep c.requires (rw (c.if-levels-eq0.true, h.1) (nest_deep c.in-Some.field-0))

pub value-returns-in-None : goal.value-returns-in-None
value-returns-in-None t c =
    let n = c.in-None.ensures in
    says_as (λ r k. (_, val_scalar k.1, k.2, flat _ k.1)) (λ f r k. val_in_scalar n.0 n.1 k) c.scalar.ensures

pub rest-returns-then-eq : goal.rest-returns-then-eq
rest-returns-then-eq t c =
    let k = c.args.kind in
    let b : c.close-close.result < 256 = rw c.close-close.ensures (closing_byte k) in
    let h = found c.peek.result c.close-close.result b c.peek.ensures c.eq.ensures c.if-eq.true in
    let e = rw c.close-close.ensures at h.split in
    nest_none _ _ k h.next (rw e at c.skip_ws-i.ensures.run)

pub rest-loop-past-init : goal.rest-loop-past-init
rest-loop-past-init t c =
    let w = c.skip_ws-i.ensures in
    let n = unfound c.peek.result c.close-close.result c.peek.ensures c.eq.ensures c.if-eq.false in
    (w.within, λ o a. nest_some _ _ c.args.kind w.run w.stop (rw c.close-close.ensures at n) a)

pub rest-returns-in_err-past : goal.rest-returns-in_err-past
rest-returns-in_err-past t c =
    let l = c.loop-past in
    let a = c.args in
    l.invariant.1 _
    (passed _ c.from_residual.ensures.1 c.in_err-past.ensures (nest_in (drop l.i a.s.now) a.levels a.kind))

pub rest-returns-in_err-next : goal.rest-returns-in_err-next
rest-returns-in_err-next t c =
    let l = c.loop-past in
    let a = c.args in
    let v = said_past c.in_ok-past.ensures refl in
    let b = bad_at (rw c.close-close.ensures at c.in_err-next.ensures) refl in
    let p = err_from_is_err_and c.from_residual-in_err-next.result c.from_residual-in_err-next.ensures.1 in
    rw (p.1, p.2, b.1) (l.invariant.1 _ (nest_bad (drop l.i a.s.now) a.levels a.kind v.1 b.2))

pub rest-loop-past-smaller : goal.rest-loop-past-smaller
rest-loop-past-smaller t c =
    let l = c.loop-past in
    let a = c.args in
    let v = said_past c.in_ok-past.ensures refl in
    let m = more_at c.in_ok-next.ensures (ap Ok c.in-More.is) in
    let h = later a.s.now l.i c.in_ok-past.past v.0 (item_shorter (drop l.i a.s.now) a.levels a.kind _ v.1) in
    omega (arith, m.late, m.within)

pub rest-loop-past-preserved : goal.rest-loop-past-preserved
rest-loop-past-preserved t c =
    let l = c.loop-past in
    let a = c.args in
    let v = said_past c.in_ok-past.ensures refl in
    let m = more_at c.in_ok-next.ensures (ap Ok c.in-More.is) in
    (m.within, λ o x. l.invariant.1 o (nest_more (drop l.i a.s.now) a.levels a.kind v.1 m x))

pub rest-returns-in-End : goal.rest-returns-in-End
rest-returns-in-End t c =
    let l = c.loop-past in
    let a = c.args in
    let v = said_past c.in_ok-past.ensures refl in
    let m = end_at (rw c.close-close.ensures at c.in_ok-next.ensures) (ap Ok c.in-End.is) in
    l.invariant.1 _ (nest_end (drop l.i a.s.now) a.levels a.kind v.1 m)

pub item-returns-in-Array : goal.item-returns-in-Array
item-returns-in-Array t c = rw c.in-Array.is c.value.ensures

pub item-returns-in_ok-name-in-Object : goal.item-returns-in_ok-name-in-Object
item-returns-in_ok-name-in-Object t c =
    let e = said_past c.in_ok-name-in-Object.ensures refl in
    rw c.in-Object.is
    (says_as (λ r k. (_, _, member_of e.1.1 k.1, k.2, k.3)) (λ f r k. member_in_value e.1.1 e.1.2 k)
    c.value-in-Object.ensures)

pub item-returns-in_err-name-in-Object : goal.item-returns-in_err-name-in-Object
item-returns-in_err-name-in-Object t c =
    rw c.in-Object.is
    (passed _ c.from_residual.ensures.1 c.in_err-name-in-Object.ensures (λ f r m. member_in_name m))
