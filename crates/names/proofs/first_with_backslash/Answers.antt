-- `names::first_with_backslash` meets its contract. The loop's invariant: `Passed`.
-- Assumes nothing.
use Prim.Native.Nat.{ℕ, ◌+◌, ◌-◌}
use native.Mathlib.Omega.{arith}
use mathlib.Core.Path.{◌≡◌, sym, ◌∙◌}
use mathlib.Core.Bool.{Bool}
use mathlib.Core.List.{List}
use lib.ListN.{drop, take}
use Rattle.names.specs.Strings.{slashed}
use Rattle.names.proofs.Strings.{close_in}
use Rattle.names.proofs.Passes.{start, string_passed, colon_passed, colon_holds, other_passed, plain}
use Rattle.names.proofs.first_with_backslash.Goals as goal

pub loop-i-init : goal.loop-i-init
loop-i-init c = start _

pub bounds-s-i : goal.bounds-s-i
bounds-s-i c = omega arith

pub overflow_add-next : goal.overflow_add-next
overflow_add-next c = omega arith

pub close-e-requires : goal.close-e-requires
close-e-requires c = omega arith

pub overflow_sub-size : goal.overflow_sub-size
overflow_sub-size c = omega arith

pub overflow_add-i : goal.overflow_add-i
overflow_add-i c =
    let s = c.args.s.now in
    omega (arith, close_in s (c.loop-i.i + 1) c.close-e.result (omega arith) c.close-e.ensures)

pub loop-i-smaller-then-b-eq34 : goal.loop-i-smaller-then-b-eq34
loop-i-smaller-then-b-eq34 c = omega arith

pub loop-i-preserved-then-b-eq34 : goal.loop-i-preserved-then-b-eq34
loop-i-preserved-then-b-eq34 c =
    string_passed c.loop-i.invariant (omega arith) c.close-e.result c.if-b-eq34.true c.close-e.ensures

pub overflow_add-from : goal.overflow_add-from
overflow_add-from c = omega arith

pub overflow_add-to : goal.overflow_add-to
overflow_add-to c = omega arith

pub slice_bounds-has_backslash-count : goal.slice_bounds-has_backslash-count
slice_bounds-has_backslash-count c = omega arith

pub slice_bounds-has_backslash-start : goal.slice_bounds-has_backslash-start
slice_bounds-has_backslash-start c = omega arith

pub slice_bounds-has_backslash-end : goal.slice_bounds-has_backslash-end
slice_bounds-has_backslash-end c = omega arith

pub has_backslash-requires : goal.has_backslash-requires
has_backslash-requires c = omega arith

-- the part that was looked at is the last string
told : (s : List ℕ) (last size : ℕ) {r : Bool} → r ≡ slashed (take (last + 1 + size - (last + 1)) (drop (last + 1) s))
    → slashed (take size (drop (last + 1) s)) ≡ r
told s last size e = let k : last + 1 + size - (last + 1) ≡ size = omega arith in sym (rw k at e)

pub returns-then-has_backslash : goal.returns-then-has_backslash
returns-then-has_backslash c =
    let e = told c.args.s.now c.loop-i.last c.loop-i.size c.has_backslash.ensures in
    colon_holds c.loop-i.invariant (omega arith) c.if-b-eq58.true (e ∙ c.if-has_backslash.true)

pub loop-i-smaller-then-b-eq58 : goal.loop-i-smaller-then-b-eq58
loop-i-smaller-then-b-eq58 c = omega arith

pub loop-i-preserved-then-b-eq58 : goal.loop-i-preserved-then-b-eq58
loop-i-preserved-then-b-eq58 c =
    let e = told c.args.s.now c.loop-i.last c.loop-i.size c.has_backslash.ensures in
    colon_passed c.loop-i.invariant (omega arith) c.if-b-eq58.true (e ∙ c.if-has_backslash.false)

pub loop-i-smaller : goal.loop-i-smaller
loop-i-smaller c = omega arith

pub loop-i-preserved : goal.loop-i-preserved
loop-i-preserved c =
    other_passed c.loop-i.invariant (omega arith) c.if-b-eq34.false c.if-b-eq58.false

pub returns : goal.returns
returns c = plain c.loop-i.invariant (omega arith)
