-- `names::same` meets its contract.
-- Assumes nothing.
use Prim.Native.Nat.{ℕ, ◌+◌, ◌-◌}
use native.Mathlib.Omega.{arith}
use mathlib.Core.Path.{◌≡◌, refl, ◌∙◌}
use mathlib.Core.List.{List, [], ◌∷◌}
use lib.Dec.{eqb}
use lib.Pointwise.{pointwise}
use Rattle.names.specs.Strings.{same}
use Rattle.names.proofs.same.Goals as goal

-- std's word for equal slices of numbers
equal_bytes : (x y : List ℕ) → pointwise eqb x y ≡ same x y
unfolding same
equal_bytes [] [] = refl
equal_bytes [] (b ∷ y) = refl
equal_bytes (a ∷ x) [] = refl
equal_bytes (a ∷ x) (b ∷ y) = rw (equal_bytes x y)

pub returns : goal.returns
returns c =
    let i : c.args.a + c.args.n - c.args.a ≡ c.args.n = omega arith in
    let j : c.args.b + c.args.n - c.args.b ≡ c.args.n = omega arith in
    let e = rw (i, j) at c.eq.ensures in
    e ∙ equal_bytes _ _
