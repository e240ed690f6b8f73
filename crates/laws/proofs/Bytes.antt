-- Little-endian numbers: the bound, one byte more at either end, and two lists that agree.
-- Assumes nothing.
use Prim.Native.Nat.{ℕ, zero, suc, ◌+◌, ◌*◌, ◌-◌, ◌^◌, ◌<◌, ◌≤◌}
use mathlib.Core.Path.{◌≡◌, refl}
use mathlib.Core.List.{List, [], ◌∷◌}
use native.Mathlib.Nat.{pow-succ'}
use native.Mathlib.Omega.{arith}
use lib.ListN.{get_or, drop, length}
use lib.Seq.{drop-nil, take-nil, drop-drop}
use Rattle.laws.specs.Bytes.{little, little_at}

-- every entry is a byte
abbrev pub Bytes : List ℕ → Type 0
Bytes f = (i : ℕ) → get_or f i 0 < 256

-- by the first byte, also past the end
pub little_at-suc : (f : List ℕ) (p k : ℕ) → little_at f p (suc k) ≡ get_or f p 0 + 256 * little_at f (suc p) k
unfolding little_at little
little_at-suc [] p k = rw (drop-nil {A = ℕ} p, drop-nil {A = ℕ} (suc p), take-nil {A = ℕ} k) refl
little_at-suc (b ∷ f) zero k = refl
little_at-suc (b ∷ f) (suc p) k = little_at-suc f p k

-- no bytes
pub little_at-zero : (f : List ℕ) (p : ℕ) → little_at f p 0 ≡ 0
unfolding little_at little
little_at-zero f p = refl

-- k bytes spell a number below 256 to the k
pub little_at_lt : (f : List ℕ) → Bytes f → (p k : ℕ) → little_at f p k < 256 ^ k
little_at_lt f b p zero = rw (little_at-zero f p) (omega arith)
little_at_lt f b p (suc k) = rw (pow-succ' 256 k, little_at-suc f p k) (omega (arith, b p, little_at_lt f b (suc p) k))

-- the same of the bytes as a list
pub little_lt : (bs : List ℕ) → Bytes bs → little bs < 256 ^ length bs
unfolding little
little_lt [] h = omega arith
little_lt (b ∷ bs) h = rw (pow-succ' 256 (length bs)) (omega (arith, h 0, little_lt bs (λ i. h (suc i))))

-- one byte more in front: a loop from the last byte to the first
pub little_at-more : (f : List ℕ) (p s i : ℕ) → 0 < i → i ≤ s
    → little_at f (p + i) (s - i) * 256 + get_or f (p + (i - 1)) 0 ≡ little_at f (p + (i - 1)) (s - (i - 1))
little_at-more f p s i h k =
    let a : s - (i - 1) ≡ suc (s - i) = omega arith in
    let b : suc (p + (i - 1)) ≡ p + i = omega arith in
    rw (a, little_at-suc, b) (omega arith)

-- two lists agree on the n bytes from p on
abbrev pub Agree : List ℕ → List ℕ → ℕ → ℕ → Type 0
Agree f g p n = (i : ℕ) → p ≤ i → i < p + n → get_or f i 0 ≡ get_or g i 0

-- they spell the same number there
pub little_at-agree : (f g : List ℕ) (p k : ℕ) → Agree f g p k → little_at f p k ≡ little_at g p k
little_at-agree f g p zero h = rw (little_at-zero f p, little_at-zero g p) refl
little_at-agree f g p (suc k) h =
    rw (little_at-suc f p k, little_at-suc g p k, h p (omega arith) (omega arith), little_at-agree f g (suc p) k (λ i a b. h i (omega arith) (omega arith)))

-- four bytes, written out
pub little_at_four : (f : List ℕ) (p : ℕ)
    → little_at f p 4 ≡ get_or f p 0 + 256 * get_or f (p + 1) 0 + 65536 * get_or f (p + 2) 0 + 16777216 * get_or f (p + 3) 0
little_at_four f p =
    let a : suc p ≡ p + 1 = omega arith in
    let b : suc (p + 1) ≡ p + 2 = omega arith in
    let c : suc (p + 2) ≡ p + 3 = omega arith in
    rw (little_at-suc f p 3, a, little_at-suc f (p + 1) 2, b, little_at-suc f (p + 2) 1, c, little_at-suc f (p + 3) 0, little_at-zero f (suc (p + 3)))
    (omega arith)

-- a place counted from a later start
pub little_at-drop : (f : List ℕ) (a p k : ℕ) → little_at (drop a f) p k ≡ little_at f (a + p) k
unfolding little_at
little_at-drop f a p k = rw (drop-drop p a f)
