-- A question about a byte, from the tests that it is made of.
-- Assumes nothing.
use Prim.Native.Nat.{ℕ, ◌≤◌}
use native.Mathlib.Omega.{arith}
use mathlib.Core.Path.{◌≡◌, refl}
use mathlib.Core.Bool.{Bool, true, false, not, ◌&&◌, ◌||◌}
use mathlib.Core.Logic.{◌⊎◌, inl, inr, ⊎_elim}
use borrow.Author.Tests.{eqb-true, eqb-false, leb-true, leb-false}
use lib.Dec.{eqb, leb}
use Rattle.laws.proofs.Tests.{by_test}
use Rattle.json_text.specs.Grammar.{Plain}
use Rattle.json_text.specs.Scans.{Tells}
use Rattle.json_text.specs.Scans.Tells.{tells_true, tells_false}
use Rattle.json_text.specs.Strings.{plain}

-- an answer to one question is an answer to another that says the same
pub tells_as : {P Q : Type 0} {t : Bool} → (P → Q) → (Q → P) → Tells P t → Tells Q t
tells_as f g (tells_true p) = tells_true (f p)
tells_as f g (tells_false n) = tells_false (λ q. n (g q))

-- whether two numbers are the same
pub same : (b k : ℕ) → Tells (b ≡ k) (eqb b k)
same b k = by_test (eqb b k) (λ e. rw e (tells_true (eqb-true b k e))) (λ e. rw e (tells_false (eqb-false b k e)))

-- whether a number is at most another
pub at_most : (a b : ℕ) → Tells (a ≤ b) (leb a b)
at_most a b =
    by_test (leb a b) (λ e. rw e (tells_true (leb-true a b e)))
    (λ e. rw e (tells_false (λ h. omega (arith, leb-false a b e))))

-- whether both hold
pub both : {P Q : Type 0} {t u : Bool} → Tells P t → Tells Q u → Tells (P × Q) (t && u)
both (tells_true p) (tells_true q) = tells_true (p, q)
both (tells_true p) (tells_false n) = tells_false (λ h. n h.1)
both (tells_false n) (tells_true q) = tells_false (λ h. n h.0)
both (tells_false n) (tells_false m) = tells_false (λ h. n h.0)

-- whether one of them holds
pub either : {P Q : Type 0} {t u : Bool} → Tells P t → Tells Q u → Tells (P ⊎ Q) (t || u)
either (tells_true p) (tells_true q) = tells_true (inl p)
either (tells_true p) (tells_false m) = tells_true (inl p)
either (tells_false n) (tells_true q) = tells_true (inr q)
either (tells_false n) (tells_false m) = tells_false (λ h. ⊎_elim n m h)

-- whether it does not hold
pub denied : {P : Type 0} {t : Bool} → Tells P t → Tells (P → ⊥) (not t)
denied (tells_true p) = tells_false (λ f. f p)
denied (tells_false n) = tells_true n

-- a class of bytes of which k is the only one left
pub only : {P : Type 0} (b k : ℕ) → (b ≡ k → P) → ((b ≡ k → ⊥) → P → ⊥) → Tells P (eqb b k)
only b k y n =
    by_test (eqb b k) (λ e. rw e (tells_true (y (eqb-true b k e)))) (λ e. rw e (tells_false (n (eqb-false b k e))))

-- a class of bytes of which k is one, and t tells of the others
pub or_this : {P : Type 0} {t : Bool} (b k : ℕ) → (b ≡ k → P) → ((b ≡ k → ⊥) → Tells P t) → Tells P (t || eqb b k)
or_this {t = t} b k y n =
    by_test (eqb b k)
    (λ e. let f : (t || true) ≡ true = or-true t in rw (e, f) (tells_true (y (eqb-true b k e))))
    (λ e. let f : (t || false) ≡ t = or_false t in rw (e, f) (n (eqb-false b k e)))
  where
    or-true : (t : Bool) → (t || true) ≡ true
    or-true true = refl
    or-true false = refl

    or_false : (t : Bool) → (t || false) ≡ t
    or_false true = refl
    or_false false = refl

-- whether a byte stands for itself in a string
pub plain_tells : (b : ℕ) → Tells (Plain b) (plain b)
plain_tells b =
    tells_as
    (λ h. (h.0.0.0, h.0.0.1, h.0.1, h.1))
    (λ p. (((p.0, p.1), p.2), p.3))
    (both (both (both (at_most 0x20 b) (at_most b 0xff)) (denied (same b 0x22))) (denied (same b 0x5c)))

-- the same of an answer
pub plain_said : {b : ℕ} {t : Bool} → t ≡ plain b → Tells (Plain b) t
plain_said {b = b} e = rw e (plain_tells b)
