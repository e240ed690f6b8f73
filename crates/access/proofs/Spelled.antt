-- Little-endian numbers of the component sizes, written out.
-- Assumes nothing.
use Prim.Native.Nat.{ℕ, zero, suc, ◌+◌, ◌*◌, ◌^◌, ◌<◌, ◌≤◌}
use mathlib.Core.Path.{◌≡◌}
use mathlib.Core.Bool.{true, ◌||◌}
use mathlib.Core.List.{List}
use native.Mathlib.Nat.{mul-le-mul_left, mul-suc}
use native.Mathlib.Omega.{arith}
use borrow.Author.Tests.{ne_eqb, eqb-true}
use lib.Dec.{eqb}
use lib.ListN.{get_or}
use Rattle.tables.specs.Elements.{is_size}
use Rattle.laws.specs.Bytes.{little_at}
use Rattle.laws.proofs.Bytes.{little_at-suc, little_at-zero}

pub little_at_one : (f : List ℕ) (p : ℕ) → little_at f p 1 ≡ get_or f p 0
little_at_one f p = rw (little_at-suc f p 0, little_at-zero f (suc p)) (omega arith)

pub little_at_two : (f : List ℕ) (p : ℕ) → little_at f p 2 ≡ get_or f p 0 + 256 * get_or f (p + 1) 0
little_at_two f p =
    let e : suc p ≡ p + 1 = omega arith in
    rw (little_at-suc f p 1, e, little_at_one f (p + 1))

-- at most four bytes spell a number below 2 to the 32
pub power_le : (k : ℕ) → k < 5 → 256 ^ k ≤ 4294967296
power_le zero h = omega arith
power_le (suc zero) h = omega arith
power_le (suc (suc zero)) h = omega arith
power_le (suc (suc (suc zero))) h = omega arith
power_le (suc (suc (suc (suc zero)))) h = omega arith
power_le (suc (suc (suc (suc (suc k))))) h = absurd (omega arith)

-- item k of n ends within n items
pub item : (s : ℕ) {k n : ℕ} → k < n → s * k + s ≤ s * n
item s {k} h = omega (arith, mul-le-mul_left s h, mul-suc s k)

-- a component size that is not 1, 2 or 4 is 0
pub size_none : (s : ℕ) → (s ≡ 1 → ⊥) → (s ≡ 2 → ⊥) → (s ≡ 4 → ⊥) → (is_size s || eqb s 0) ≡ true → s ≡ 0
size_none s a b c e = eqb-true s 0 (rw (ne_eqb s 1 a, ne_eqb s 2 b, ne_eqb s 4 c) at e)
