-- A rule of a table, or of every number below n, by one test that the checker computes. Nested, it holds of pairs and triples.
-- Assumes nothing.
use mathlib.Core.Path.{subst, sym}
use mathlib.Core.Logic.{⊎_elim}
use mathlib.Core.Bool.{Bool, true, false}
use Prim.Native.Nat.{ℕ, zero, suc, ◌<◌}
use native.Mathlib.Nat.{le_of_suc-le-suc, not-suc-le-zero, eq-or-lt_of_le}
use lib.Dec.{T}

-- two tests, as one that computes
abbrev pub both : Bool → Bool → Bool
both true b = b
both false b = false

-- the first holds
both_left : (a b : Bool) → T (both a b) → T a
both_left true b t = tt
both_left false b t = t

-- the second holds
both_right : (a b : Bool) → T (both a b) → T b
both_right true b t = t
both_right false b t = absurd t

-- the test passes at every number below n
abbrev pub every : ℕ → (ℕ → Bool) → Bool
every zero f = true
every (suc n) f = both (f n) (every n f)

-- so it passes at each
pub at : (n : ℕ) (f : ℕ → Bool) → T (every n f) → (k : ℕ) → k < n → T (f k)
at zero f t k h = absurd (not-suc-le-zero h)
at (suc n) f t k h =
    ⊎_elim (λ e. subst (λ (m : ℕ). T (f m)) (sym e) (both_left (f n) (every n f) t))
    (λ l. at n f (both_right (f n) (every n f) t) k l)
    (eq-or-lt_of_le (le_of_suc-le-suc h))

-- of pairs and of triples
pub at2 : (m n : ℕ) (f : ℕ → ℕ → Bool) → T (every m (λ i. every n (f i))) → (i j : ℕ) → i < m → j < n → T (f i j)
at2 m n f t i j hi hj = at n (f i) (at m (λ i. every n (f i)) t i hi) j hj

-- and of triples
pub at3 : (m n o : ℕ) (f : ℕ → ℕ → ℕ → Bool) → T (every m (λ i. every n (λ j. every o (f i j))))
    → (i j k : ℕ) → i < m → j < n → k < o → T (f i j k)
at3 m n o f t i j k hi hj hk = at o (f i j) (at2 m n (λ i j. every o (f i j)) t i j hi hj) k hk
