-- Going up from a node: in as many steps as there are nodes the way up ends, or it never does.
-- Assumes nothing.
use Prim.Native.Nat.{ℕ, zero, suc, ◌+◌, ◌-◌, ◌<◌, ◌≤◌}
use mathlib.Core.Path.{◌≡◌, refl, sym, ap}
use native.Mathlib.Nat.{zero-add, suc-add}
use native.Mathlib.Omega.{arith}
use borrow.Author.Tests.{ltb-true, ltb-false}
use lib.Dec.{ltb}
use Rattle.laws.proofs.Tests.{by_test}
use Rattle.laws.proofs.Pigeonhole.{Twice, pigeons}
use Rattle.graph.specs.Graph.{climb}

-- the first step is the last of the others
pub climb_out : (up : ℕ → ℕ) (k x : ℕ) → climb up (suc k) x ≡ climb up k (up x)
climb_out up zero x = refl
climb_out up (suc k) x = ap up (climb_out up k x)

-- two ways up that agree step by step
pub climb_same : (up down : ℕ → ℕ) → ((x : ℕ) → up x ≡ down x) → (k x : ℕ) → climb up k x ≡ climb down k x
climb_same up down h zero x = refl
climb_same up down h (suc k) x = rw (climb_same up down h k x) (h (climb down k x))

-- From m on there is nothing: a node without a parent goes to m, and past m the way stays past m.
module _ (up : ℕ → ℕ) (m x : ℕ) (stays : (y : ℕ) → m ≤ y → m ≤ up y) where
  -- past m at a step, past m at each of the next t
  gone : (k t : ℕ) → m ≤ climb up k x → m ≤ climb up (t + k) x
  gone k zero h = rw zero-add h
  gone k (suc t) h = rw suc-add (stays (climb up (t + k) x) (gone k t h))

  -- once past m, past m at each later step
  pub later : (k j : ℕ) → k ≤ j → m ≤ climb up k x → m ≤ climb up j x
  later k j l h = let e : (j - k) + k ≡ j = omega arith in rw e at (gone k (j - k) h)

  -- at a node after m steps, so at each step before
  early : climb up m x < m → (k : ℕ) → k ≤ m → climb up k x < m
  early h k l =
      by_test (ltb (climb up k x) m) (λ t. ltb-true (climb up k x) m t)
      (λ t. absurd (omega (arith, later k m l (ltb-false (climb up k x) m t))))

  -- from one node the way up is the same
  along : (i j t : ℕ) → climb up i x ≡ climb up j x → climb up (t + i) x ≡ climb up (t + j) x
  along i j zero e = rw (zero-add i, zero-add j) e
  along i j (suc t) e = rw (suc-add t i, suc-add t j) (ap up (along i j t e))

  -- still at a node after m steps: at a node after any number of steps
  pub never : climb up m x < m → (k : ℕ) → climb up k x < m
  never h k = by k k (omega arith)
    where
      tw : Twice (λ i. climb up i x) m
      tw = pigeons m (λ i. climb up i x) (early h)

      turn : (k : ℕ) → m < k → climb up k x ≡ climb up ((k - tw.j) + tw.i) x
      turn k l =
          let e : (k - tw.j) + tw.j ≡ k = omega (arith, tw.last) in
          sym (rw e at (along tw.i tw.j (k - tw.j) tw.same))

      by : (b k : ℕ) → k ≤ b → climb up k x < m
      by zero k l = early h k (omega arith)
      by (suc b) k l =
          by_test (ltb m k)
          (λ t. let h = ltb-true m k t in
          rw (turn k h) (by b ((k - tw.j) + tw.i) (omega (arith, tw.before, tw.last))))
          (λ t. early h k (ltb-false m k t))
