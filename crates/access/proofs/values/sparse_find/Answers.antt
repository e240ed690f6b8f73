use Prim.Native.Nat.{◌+◌, ◌*◌}
use mathlib.Core.Path.{◌≡◌, sym, ◌∙◌}
use native.Mathlib.Omega.{arith}
use borrow.Author.Count.{below_more}
use borrow.Author.Tests.{eq-eqb, ne_eqb}
use lib.Dec.{eqb}
use Rattle.laws.specs.Bytes.{little_at}
use Rattle.laws.proofs.Search.{least_is, least_none}
use Rattle.access.specs.Readings.{sparse_find}
use Rattle.access.proofs.Spelled.{item}
use Rattle.access.proofs.Results.{found_at, found_none}
use Rattle.access.proofs.values.sparse_find.Goals as goal

pub overflow_mul-size : goal.overflow_mul-size
overflow_mul-size c = omega (arith, item c.args.size c.loop-k-test.true)

pub overflow_add-first : goal.overflow_add-first
overflow_add-first c = omega (arith, item c.args.size c.loop-k-test.true)

pub little_at-index-requires : goal.little_at-index-requires
little_at-index-requires c =
    record { size_in_bounds = omega (arith, item c.args.size c.loop-k-test.true); size_value = c.requires.size_value }

pub returns-then-index-from : goal.returns-then-index-from
unfolding sparse_find
returns-then-index-from c =
    let a = c.args in
    found_at a.count _ c.loop-k.k c.loop-k-test.true
    (least_is (λ j. eqb (little_at a.file.now (a.first + a.size * j) a.size) a.element) a.count
    c.loop-k.k
    (record {
      le = omega arith;
      holds = λ l. eq-eqb _ _ (sym c.little_at-index.ensures.0 ∙ c.if-index-from.true ∙ c.from.ensures);
      fails = c.loop-k.invariant;
    }))

pub loop-k-preserved : goal.loop-k-preserved
loop-k-preserved c =
    below_more _ _ c.loop-k.invariant
    (ne_eqb _ _ (λ q. c.if-index-from.false (c.little_at-index.ensures.0 ∙ q ∙ sym c.from.ensures)))

pub returns : goal.returns
unfolding sparse_find
returns c =
    let a = c.args in
    let z : c.loop-k.k ≡ a.count = omega arith in
    found_none a.count _
    (least_none (λ j. eqb (little_at a.file.now (a.first + a.size * j) a.size) a.element) a.count
    (rw z at c.loop-k.invariant))
