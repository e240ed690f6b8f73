use Prim.Native.Nat.{ℕ, ◌+◌, ◌*◌, ◌/◌, ◌%◌, ◌<◌, ◌≤◌}
use native.Mathlib.Nat.{mul-le-mul, div-le_self, mod-lt}
use native.Mathlib.Omega.{arith}
use Rattle.tables.proofs.layout.matrix_place.Goals as goal
use Rattle.tables.proofs.layout.matrix_place.Goals.{Start}

record Small (size rows component : ℕ) : Type 0 where
  column : rows * size ≤ 17179869180
  quotient : component / rows ≤ 15
  columns : component / rows * ((rows * size + 3) / 4 * 4) ≤ 300000000000
  remainder : component % rows ≤ 4
  row : component % rows * size ≤ 17179869180

small : (size rows component : ℕ) → size ≤ 4294967295 → 0 < rows → rows < 5 → component < 16
    → Small size rows component
small size rows c hs hp hr hc =
    let k : rows * size ≤ 17179869180 = mul-le-mul {n₂ = 4} {m₂ = 4294967295} (omega arith) (omega arith) in
    record {
      column = k;
      quotient = omega (arith, div-le_self c rows);
      columns = mul-le-mul {n₂ = 15} {m₂ = 20000000000} (omega (arith, div-le_self c rows)) (omega arith);
      remainder = omega (arith, mod-lt c {m = rows} hp);
      row = mul-le-mul {n₂ = 4} {m₂ = 4294967295} (omega (arith, mod-lt c {m = rows} hp)) (omega arith);
    }

known : (c : Start) → Small c.args.size c.args.rows c.args.component
known c =
    small c.args.size c.args.rows c.args.component (omega arith) c.requires.rows_nonzero.0 c.requires.rows_nonzero.1 c.requires.component_bound

pub overflow_mul-column : goal.overflow_mul-column
overflow_mul-column c = omega (arith, known c)

pub overflow_add-column : goal.overflow_add-column
overflow_add-column c = omega (arith, known c)

pub overflow_mul-column-2 : goal.overflow_mul-column-2
overflow_mul-column-2 c = omega (arith, known c)

pub overflow_cast-result : goal.overflow_cast-result
overflow_cast-result c = omega (arith, known c)

pub overflow_mul-result : goal.overflow_mul-result
overflow_mul-result c = omega (arith, known c)

pub overflow_cast-result-2 : goal.overflow_cast-result-2
overflow_cast-result-2 c = omega (arith, known c)

pub overflow_mul-result-2 : goal.overflow_mul-result-2
overflow_mul-result-2 c = omega (arith, known c)

pub overflow_add-result : goal.overflow_add-result
overflow_add-result c = omega (arith, known c)
