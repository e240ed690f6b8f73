-- What the code's results say: of a search, of readings and view lookups.
-- Assumes nothing.
use Prim.Native.Nat.{ℕ, ◌<◌, ◌≤◌}
use mathlib.Core.Path.{◌≡◌, refl, sym, ap, ◌∙◌}
use native.Mathlib.Omega.{arith}
use borrow.Author.Tests.{lt-ltb, le-ltb, ltb-true, ltb-false}
use mathlib.Core.Bool.{cond}
use lib.Dec.{ltb, eqb}
use lib.IntN.{ℤ}
use Rattle.std.specs.Prelude.{Result, Ok, Err, Some, None}
use Rattle.laws.proofs.Tests.{by_test}
use Rattle.access.specs.declared.Reading.{Reading}
use Rattle.access.specs.declared.Place.{Place}
use Rattle.access.specs.declared.Refusal.{Refusal}
use Rattle.access.specs.declared.Refusal.TheVariants.{NoAccessor, NoElement, NoComponent, Unfit, NoView}
use Rattle.access.specs.Results.{number_of, reading_of, view_number_said, place_said, found}

-- a search that finds k, and one that finds none
pub found_at : (n r k : ℕ) → k < n → r ≡ k → Some k ≡ found n r
found_at n r k h e = rw (e, lt-ltb k n h)

pub found_none : (n r : ℕ) → r ≡ n → None ≡ found n r
found_none n r e = rw (e, le-ltb n n (omega arith))

-- what it found is the number itself, below n; ..
pub found_some : (n r k : ℕ) → Some k ≡ found n r → (k ≡ r) × (k < n)
found_some n r k e = by_test (ltb r n) (λ t. let q : Some k ≡ Some r = rw t at e in let p : k ≡ r = cc in (p, rw p (ltb-true _ _ t))) (λ t. absurd (let q : Some k ≡ None = rw t at e in cc))

-- .. where it found none, the number is not below n
pub found_no : (n r : ℕ) → None ≡ found n r → n ≤ r
found_no n r e = by_test (ltb r n) (λ t. absurd (let q : None ≡ Some r = rw t at e in cc)) (λ t. ltb-false _ _ t)

-- a refusal's number is not 0, and tells which it is
pub number_nonzero : (r : Refusal) → number_of r ≡ 0 → ⊥
number_nonzero NoAccessor e = omega arith
number_nonzero NoElement e = omega arith
number_nonzero NoComponent e = omega arith
number_nonzero Unfit e = omega arith
number_nonzero NoView e = omega arith

-- the refusal that has this number
refusal_with : ℕ → Refusal
refusal_with n =
    cond (eqb n 60) NoAccessor
    (cond (eqb n 61) NoElement
    (cond (eqb n 62) NoComponent
    (cond (eqb n 63) Unfit
    NoView)))

with_number : (r : Refusal) → refusal_with (number_of r) ≡ r
unfolding refusal_with
with_number NoAccessor = refl
with_number NoElement = refl
with_number NoComponent = refl
with_number Unfit = refl
with_number NoView = refl

number_injective : (r q : Refusal) → number_of r ≡ number_of q → r ≡ q
number_injective r q e = sym (with_number r) ∙ ap refusal_with e ∙ with_number q

-- one reading is one answer or one refusal, ..
pub reading_of_injective : (a b : Result ℤ Refusal) → reading_of a ≡ reading_of b → a ≡ b
reading_of_injective (Ok v) (Ok w) e = ap Ok (ap (λ (r : Reading). r.value) e)
reading_of_injective (Ok v) (Err r) e = absurd (number_nonzero r (sym (ap (λ (r : Reading). r.number) e)))
reading_of_injective (Err r) (Ok v) e = absurd (number_nonzero r (ap (λ (r : Reading). r.number) e))
reading_of_injective (Err r) (Err q) e = ap Err (number_injective r q (ap (λ (r : Reading). r.number) e))

-- .. and so are the number and the place of a view lookup
pub view_said_injective : (a b : Result Place Refusal) → view_number_said a ≡ view_number_said b → place_said a ≡ place_said b → a ≡ b
view_said_injective (Ok p) (Ok q) e f = ap Ok f
view_said_injective (Ok p) (Err r) e f = absurd (number_nonzero r (sym e))
view_said_injective (Err r) (Ok p) e f = absurd (number_nonzero r e)
view_said_injective (Err r) (Err q) e f = ap Err (number_injective r q e)
