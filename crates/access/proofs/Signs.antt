-- Unsigned numbers, cast to signed ones.
-- Assumes nothing.
use Prim.Native.Nat.{ℕ, zero, suc, ◌-◌, ◌^◌, ◌<◌}
use mathlib.Core.Path.{◌≡◌}
use native.Mathlib.Omega.{arith}
use borrow.Author.Tests.{lt-ltb}
use lib.Dec.{ltb}
use lib.IntN.{pos, negsuc, ◌-ℤ◌}
use mir.Syntax.{w8, w16, w64}
use mir.Val.{to_z}
use Rattle.laws.proofs.Tests.{by_test}
use Rattle.access.specs.Numbers.{twos}

-- a smaller number less a larger one is negative
pub minus : (a b : ℕ) → a < b → pos a -ℤ pos b ≡ negsuc (b - suc a)
minus a zero l = absurd (omega arith)
minus a (suc b) l = rw (lt-ltb a (suc b) l)

-- a small number keeps its value
pub small : (n : ℕ) → n < 2 ^ 63 → to_z w64 n ≡ pos n
small n l = rw (lt-ltb n (2 ^ 63) l)

-- a byte read as i8, ..
pub byte_signed : (n : ℕ) → n < 256 → to_z w8 n ≡ twos 128 n
unfolding twos
byte_signed n h =
    by_test (ltb n 128) (λ t. rw t) (λ t. rw (t, minus n 256 h))

-- .. and two bytes read as i16 are two's complement
pub short_signed : (n : ℕ) → n < 65536 → to_z w16 n ≡ twos 32768 n
unfolding twos
short_signed n h =
    by_test (ltb n 32768) (λ t. rw t) (λ t. rw (t, minus n 65536 h))
