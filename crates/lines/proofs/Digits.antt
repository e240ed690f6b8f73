-- The digits of a number: by its last digit, and how many there are. Assumes nothing.
use Prim.Native.Nat.{ℕ, zero, suc, ◌+◌, ◌*◌, ◌/◌, ◌%◌, ◌^◌, ◌≤◌, ◌<◌}
use mathlib.Core.Path.{◌≡◌, refl}
use mathlib.Core.List.{List, [], ◌∷◌, ◌++◌}
use native.Mathlib.Nat.{not-suc-le-zero, pow-succ'}
use native.Mathlib.Omega.{arith}
use lib.Dec.{ltb}
use lib.ListN.{length, length-append}
use borrow.Author.Tests.{lt-ltb, le-ltb, ltb-true, ltb-false}
use Rattle.std.specs.Prelude.{Option, None, Some, IfNone, IfSome}
use Rattle.std.specs.Option.{unwrap_or}
use Rattle.laws.proofs.Tests.{by_test}
use Rattle.lines.specs.Decimal.{digits_of, decimal_of}

-- of a number below 10
digits_small : (k n : ℕ) → n < 10 → digits_of (suc k) n ≡ (0x30 + n) ∷ []
unfolding digits_of
digits_small k n h = rw (lt-ltb n 10 h)

-- of a larger number
digits_large : (k n : ℕ) → 10 ≤ n → digits_of (suc k) n ≡ digits_of k (n / 10) ++ ((0x30 + n % 10) ∷ [])
unfolding digits_of
digits_large k n h = rw (le-ltb n 10 h)

-- any bound above the number gives the same digits
digits_same : (k m n : ℕ) → n < k → n < m → digits_of k n ≡ digits_of m n
digits_same zero m n h g = absurd (not-suc-le-zero h)
digits_same (suc k) zero n h g = absurd (not-suc-le-zero g)
digits_same (suc k) (suc m) n h g =
    by_test (ltb n 10)
    (λ e. rw (digits_small k n (ltb-true n 10 e), digits_small m n (ltb-true n 10 e)))
    (λ e.
    let l : 10 ≤ n = ltb-false n 10 e in
    rw (digits_large k n l, digits_large m n l, digits_same k m (n / 10) (omega arith) (omega arith)))

-- one digit
pub decimal_small : (n : ℕ) → n < 10 → decimal_of n ≡ (0x30 + n) ∷ []
unfolding decimal_of
decimal_small n h = digits_small n n h

-- the last digit behind those of the tenth
pub decimal_large : (n : ℕ) → 10 ≤ n → decimal_of n ≡ decimal_of (n / 10) ++ ((0x30 + n % 10) ∷ [])
unfolding decimal_of
decimal_large n h = rw (digits_large n n h, digits_same n (suc (n / 10)) (n / 10) (omega arith) (omega arith))

-- one digit, counted
pub width_small : (n : ℕ) → n < 10 → length (decimal_of n) ≡ 1
width_small n h = rw (decimal_small n h)

-- one digit more than the tenth has
pub width_large : (n : ℕ) → 10 ≤ n → length (decimal_of n) ≡ length (decimal_of (n / 10)) + 1
width_large n h = rw (decimal_large n h) (length-append (decimal_of (n / 10)) ((0x30 + n % 10) ∷ []))

-- at least one digit
pub width_some : (n : ℕ) → 0 < length (decimal_of n)
width_some n =
    by_test (ltb n 10)
    (λ e. omega (arith, width_small n (ltb-true n 10 e)))
    (λ e. omega (arith, width_large n (ltb-false n 10 e)))

-- a number below 10 to the k has at most k digits, and one at least
width_most : (k n : ℕ) → n < 10 ^ suc k → length (decimal_of n) ≤ suc k
width_most zero n h = omega (arith, width_small n h)
width_most (suc k) n h =
    by_test (ltb n 10)
    (λ e. omega (arith, width_small n (ltb-true n 10 e)))
    (λ e.
    let p : 10 ^ suc (suc k) ≡ 10 * 10 ^ suc k = pow-succ' 10 (suc k) in
    omega (arith, width_large n (ltb-false n 10 e), width_most k (n / 10) (omega arith)))

-- a u32 has at most ten
pub width_ten : (n : ℕ) → n < 2 ^ 32 → length (decimal_of n) ≤ 10
width_ten n h = width_most 9 n (omega arith)

-- a power of ten is not 0
ten_pos : (k : ℕ) → 0 < 10 ^ k
ten_pos zero = omega arith
ten_pos (suc k) = omega (arith, pow-succ' 10 k, ten_pos k)

-- a number from 10 to the k has more than k digits
width_least : (k n : ℕ) → 10 ^ k ≤ n → suc k ≤ length (decimal_of n)
width_least zero n h = width_some n
width_least (suc k) n h =
    let p : 10 ^ suc k ≡ 10 * 10 ^ k = pow-succ' 10 k in
    let q : 0 < 10 ^ k = ten_pos k in
    omega (arith, width_large n (omega arith), width_least k (n / 10) (omega arith))

-- the digits by the logarithm, of which 0 has none
pub width_log : (n : ℕ) (o : Option ℕ) (r : ℕ) → n < 2 ^ 32 → IfNone o (n ≡ 0) → IfSome o (λ k. 10 ^ k ≤ n) → IfSome o (λ k. n < 10 * 10 ^ k)
    → r ≡ unwrap_or o 0 → (1 + r ≡ length (decimal_of n)) × (1 + r ≤ 10)
width_log n None r f z l u e =
    let w = width_small n (omega (arith, z)) in
    let t : r ≡ 0 = e in
    (omega arith, omega arith)
width_log n (Some k) r f z l u e =
    let p : 10 ^ suc k ≡ 10 * 10 ^ k = pow-succ' 10 k in
    let g : n < 10 ^ suc k = omega (arith, u) in
    let w = width_most k n g in
    let v = width_least k n l in
    let t : r ≡ k = e in
    (omega arith, omega (arith, width_ten n f))

-- the last k digits of n, where a shorter number has zeros before it
unfoldable pub padded : ℕ → ℕ → List ℕ
padded zero n = []
padded (suc k) n = padded k (n / 10) ++ ((0x30 + n % 10) ∷ [])

-- none of them
pub padded_none : (n : ℕ) → padded 0 n ≡ []
unfolding padded
padded_none n = refl

-- k of them
pub length-padded : (k n : ℕ) → length (padded k n) ≡ k
unfolding padded
length-padded zero n = refl
length-padded (suc k) n = omega (arith, length-append (padded k (n / 10)) ((0x30 + n % 10) ∷ []), length-padded k (n / 10))

-- as many as there are, are the number's digits
pub padded_decimal : (k n : ℕ) → length (decimal_of n) ≡ k → padded k n ≡ decimal_of n
unfolding padded
padded_decimal zero n h = absurd (omega (arith, width_some n))
padded_decimal (suc k) n h =
    by_test (ltb n 10)
    (λ e.
    let l : n < 10 = ltb-true n 10 e in
    let z : k ≡ 0 = omega (arith, width_small n l) in
    let d : n % 10 ≡ n = omega arith in
    rw (decimal_small n l, z, d))
    (λ e.
    let l : 10 ≤ n = ltb-false n 10 e in
    rw (decimal_large n l, padded_decimal k (n / 10) (omega (arith, width_large n l))))
