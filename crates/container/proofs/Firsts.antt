-- The first wrong chunk as the code has it, None for none.
-- Assumes nothing.
use Prim.Native.Nat.{ℕ, ◌+◌, ◌≤◌, ◌<◌}
use mathlib.Core.Path.{◌≡◌, refl}
use mathlib.Core.Bool.{Bool, true, false, cond, not, ◌&&◌}
use native.Mathlib.Omega.{arith}
use borrow.Author.Tests.{eqb-true, eqb-false, eq-eqb, ne_eqb}
use lib.Dec.{eqb}
use Rattle.std.specs.Prelude.{Some, None}
use Rattle.std.specs.Option.{option_or}
use Rattle.std.specs.Bool.{then_some}
use Rattle.laws.specs.Search.{least}
use Rattle.laws.proofs.Search.{least_says, least_more}
use Rattle.laws.proofs.Tests.{by_test}
use Rattle.container.specs.Results.{first_wrong}

one_more : (r q n : ℕ) (b : Bool) → r ≤ n → q ≡ cond (eqb r n && not b) (n + 1) r
    → first_wrong q (n + 1) ≡ option_or (first_wrong r n) (then_some b n)
unfolding first_wrong
one_more r q n true l e =
    by_test (eqb r n)
    (λ t. let z : q ≡ r = rw t at e in
    let k : r ≡ n = eqb-true r n t in
    rw (z, t, ne_eqb r (n + 1) (λ x. omega arith), k))
    (λ f. let z : q ≡ r = rw f at e in rw (z, f, ne_eqb r (n + 1) (λ x. omega arith)))
one_more r q n false l e =
    by_test (eqb r n)
    (λ t. let z : q ≡ n + 1 = rw t at e in rw (z, t, eq-eqb (n + 1) (n + 1) refl))
    (λ f. let z : q ≡ r = rw f at e in rw (z, f, ne_eqb r (n + 1) (λ x. omega arith)))

-- one chunk more
pub first_more : (p : ℕ → Bool) (n : ℕ)
    → first_wrong (least p (n + 1)) (n + 1) ≡ option_or (first_wrong (least p n) n) (then_some (p n) n)
first_more p n = one_more (least p n) (least p (n + 1)) n (p n) (least_says p n).le (least_more p n)

-- what the two answers say
pub wrong_some : (r n i : ℕ) → r ≤ n → first_wrong r n ≡ Some i → (i ≡ r) × (r < n)
unfolding first_wrong
wrong_some r n i l e =
    by_test (eqb r n)
    (λ t. absurd (cc (rw t at e)))
    (λ f. let k : i ≡ r = cc (rw f at e) in
    let m : r ≡ n → ⊥ = eqb-false r n f in
    (k, omega arith))

pub wrong_none : (r n : ℕ) → first_wrong r n ≡ None → n ≤ r
unfolding first_wrong
wrong_none r n e =
    by_test (eqb r n)
    (λ t. let k : r ≡ n = eqb-true r n t in omega arith)
    (λ f. absurd (cc (rw f at e)))
