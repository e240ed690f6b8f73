-- The answers of the tests of rules, one after another.
-- Assumes nothing.
use Prim.Native.Nat.{ℕ}
use mathlib.Core.Path.{◌≡◌, refl}
use mathlib.Core.Bool.{Bool, true, false}
use lib.Dec.{ltb}
use Rattle.std.specs.Prelude.{Ok, Err}
use Rattle.laws.proofs.Tests.{by_test}
use Rattle.tables.specs.Results.{broken_below, broken_if}

-- a rule that is not broken
pub kept : (b : Bool) (rule : ℕ) (u : Unit) → broken_if b rule ≡ Ok u → b ≡ false
kept true rule u e = absurd (cc)
kept false rule u e = refl

-- a rule that is
pub broken_now : (b : Bool) (rule x : ℕ) → broken_if b rule ≡ Err x → (b ≡ true) × (x ≡ rule)
broken_now true rule x e = let q : x ≡ rule = cc in (refl, q)
broken_now false rule x e = absurd (cc)

-- a rule that the answer names is the smallest that is broken, ..
pub broken_is : (none f rule : ℕ) → Err rule ≡ broken_below none f → (rule ≡ f) × (ltb f none ≡ true)
broken_is none f rule e =
    by_test (ltb f none)
    (λ t. let g = rw t at e in let q : rule ≡ f = cc in (q, t))
    (λ t. let g = rw t at e in absurd (cc))

-- .. and where it names none, none is
pub broken_none : (none f : ℕ) (u : Unit) → Ok u ≡ broken_below none f → ltb f none ≡ false
broken_none none f u e =
    by_test (ltb f none)
    (λ t. let g = rw t at e in absurd (cc))
    (λ t. t)
