-- A family of broken rules has at most one verdict. Assumes nothing.
use Prim.Native.Nat.{ℕ, ◌<◌}
use mathlib.Core.Path.{◌≡◌, subst, sym}
use native.Mathlib.Omega.{arith}
use borrow.Author.Tests.{ltb-true, ltb-false}
use lib.Dec.{ltb}
use Rattle.laws.specs.Verdict.{Smallest}
use Rattle.laws.proofs.Tests.{by_test}

-- two numbers of which neither is smaller are equal
not_less : (a b : ℕ) → (a < b → ⊥) → (b < a → ⊥) → a ≡ b
not_less a b f g =
    by_test (ltb a b) (λ t. absurd (f (ltb-true a b t)))
    (λ t. by_test (ltb b a) (λ u. absurd (g (ltb-true b a u))) (λ u. omega (arith, ltb-false a b t, ltb-false b a u)))

-- so there is one verdict
pub smallest_unique : (Broken : ℕ → ℕ → Type 0) (n i m j : ℕ) → Smallest Broken n i → Smallest Broken m j → (n ≡ m) × (i ≡ j)
smallest_unique Broken n i m j s t =
    let e = not_less n m (λ l. t.rules n i l s.broken) (λ l. s.rules m j l t.broken) in (
      e,
      not_less i j
          (λ l. t.items i l (subst (λ (k : ℕ). Broken k i) e s.broken))
          (λ l. s.items j l (subst (λ (k : ℕ). Broken k j) (sym e) t.broken)),
    )
