-- Numbers below m without repeats are at most m.
-- Assumes nothing.
use Prim.Native.Nat.{ℕ, zero, suc, ◌-◌, ◌<◌, ◌≤◌}
use mathlib.Core.Path.{◌≡◌, subst}
use mathlib.Core.Bool.{cond}
use mathlib.Core.List.{List}
use native.Mathlib.Omega.{arith}
use borrow.Author.Tests.{ltb-true, ltb-false, eqb-true, eqb-false}
use lib.Dec.{ltb, eqb}
use lib.ListN.{get_or, length}
use Rattle.laws.proofs.Tests.{by_test}

-- two places up to m with one value
pub record Twice (f : ℕ → ℕ) (m : ℕ) : Type 0 where
  pub i : ℕ
  pub j : ℕ
  pub before : i < j
  pub last : j ≤ m
  pub same : f i ≡ f j

-- x with the value v taken out of the numbers
without : ℕ → ℕ → ℕ
without v x = cond (ltb v x) (x - 1) x

-- the others then fit one place less
without_lt : (v x m : ℕ) → v < suc m → x < suc m → (x ≡ v → ⊥) → without v x < m
unfolding without
without_lt v x m hv hx ne =
    by_test (ltb v x) (λ t. rw t (omega (arith, ltb-true v x t))) (λ t. rw t (omega (arith, ltb-false v x t)))

-- and stay different
without_inj : (v x y : ℕ) → (x ≡ v → ⊥) → (y ≡ v → ⊥) → without v x ≡ without v y → x ≡ y
unfolding without
without_inj v x y nx ny =
    by_test (ltb v x)
    (λ t. by_test (ltb v y)
    (λ u. rw (t, u) (λ e. omega (arith, ltb-true v x t, ltb-true v y u, e)))
    (λ u. rw (t, u) (λ e. omega (arith, ltb-true v x t, ltb-false v y u, e))))
    (λ t. by_test (ltb v y) (λ u. rw (t, u) (λ e. omega (arith, ltb-false v x t, ltb-true v y u, e))) (λ u. rw (t, u) (λ e. e)))

-- a place below n with the value v, or none
data Found (f : ℕ → ℕ) (v n : ℕ) : Type 0 where
  at : (i : ℕ) → i < n → f i ≡ v → Found f v n
  nowhere : ((i : ℕ) → i < n → f i ≡ v → ⊥) → Found f v n

-- one of the two
find : (f : ℕ → ℕ) (v n : ℕ) → Found f v n
find f v zero = nowhere (λ i l e. omega arith)
find f v (suc n) = go (find f v n)
  where
    go : Found f v n → Found f v (suc n)
    go (at i l e) = at i (omega arith) e
    go (nowhere h) =
        by_test (eqb (f n) v) (λ t. at n (omega arith) (eqb-true (f n) v t))
        (λ t. nowhere (λ i l e. by_test (eqb i n)
        (λ s. eqb-false (f n) v t (subst (λ (k : ℕ). f k ≡ v) (eqb-true i n s) e))
        (λ s. h i (omega (arith, eqb-false i n s)) e)))

-- m + 1 numbers below m are not all different
pub pigeons : (m : ℕ) (f : ℕ → ℕ) → ((i : ℕ) → i ≤ m → f i < m) → Twice f m
pigeons zero f h = absurd (omega (arith, h 0 (omega arith)))
pigeons (suc m) f h = go (find f (f (suc m)) (suc m)) (pigeons m)
  where
    go : Found f (f (suc m)) (suc m) → ((g : ℕ → ℕ) → ((i : ℕ) → i ≤ m → g i < m) → Twice g m) → Twice f (suc m)
    go (at i l e) ih = record { i = i; j = suc m; before = l; last = omega arith; same = e }
    go (nowhere none) ih =
        let v = f (suc m) in
        let t = ih (λ k. without v (f k)) (λ i l. without_lt v (f i) m (h (suc m) (omega arith)) (h i (omega arith)) (none i (omega arith))) in
        record {
          i = t.i;
          j = t.j;
          before = t.before;
          last = omega (arith, t.last);
          same = without_inj v (f t.i) (f t.j)
              (none t.i (omega (arith, t.before, t.last)))
              (none t.j (omega (arith, t.last)))
              t.same;
        }

-- every entry is below m; no entry stands twice
abbrev pub AllBelow : ℕ → List ℕ → Type 0
AllBelow m xs = (i : ℕ) → i < length xs → get_or xs i 0 < m

-- no entry stands twice
abbrev pub NoRepeat : List ℕ → Type 0
NoRepeat xs = (i j : ℕ) → i < j → j < length xs → get_or xs i 0 ≡ get_or xs j 0 → ⊥

-- the law for lists
pub pigeonhole : (m : ℕ) (xs : List ℕ) → AllBelow m xs → NoRepeat xs → length xs ≤ m
pigeonhole m xs below once =
    by_test (ltb m (length xs))
    (λ t. let l = ltb-true m (length xs) t in
    let w = pigeons m (λ i. get_or xs i 0) (λ i h. below i (omega arith)) in
    absurd (once w.i w.j w.before (omega (arith, w.last)) w.same))
    (λ t. ltb-false m (length xs) t)
