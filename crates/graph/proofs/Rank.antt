-- The rank of a node, the number of steps up to where there is nothing: a child's is one more than its parent's.
-- Assumes nothing.
use Prim.Native.Nat.{ℕ, zero, suc, ◌+◌, ◌-◌, ◌<◌, ◌≤◌}
use mathlib.Core.Path.{◌≡◌, sym, ap, ◌∙◌, subst}
use mathlib.Core.Bool.{false}
use native.Mathlib.Numerals.{add-one}
use native.Mathlib.Omega.{arith}
use borrow.Author.Tests.{ltb-true, ltb-false, lt-leb, leb-true, leb-false}
use lib.Dec.{ltb, leb}
use Rattle.laws.specs.Search.{least}
use Rattle.laws.proofs.Tests.{by_test}
use Rattle.laws.proofs.Search.{Least, least_is, least_says}
use Rattle.graph.specs.Graph.{climb}
use Rattle.graph.proofs.Climb.{climb_out}

module _ (up : ℕ → ℕ) (n : ℕ) where
  -- the first step that is past the nodes, n where there is none
  abbrev pub rank : ℕ → ℕ
  rank x = least (λ k. leb n (climb up k x)) n

  -- what that means
  says : (x : ℕ) → Least (λ k. leb n (climb up k x)) n (rank x)
  says x = least_says (λ k. leb n (climb up k x)) n

  -- it is at most n
  pub rank_low : (x : ℕ) → rank x ≤ n
  rank_low x = (says x).le

  -- a node has steps to go
  pub rank_pos : (x : ℕ) → x < n → 0 < rank x
  rank_pos x hx =
      by_test (ltb 0 (rank x)) (λ t. ltb-true 0 (rank x) t)
      (λ t. let z : rank x ≡ 0 = omega (arith, ltb-false 0 (rank x) t) in
      absurd (omega (arith, leb-true n x (rw z at ((says x).holds (omega arith))))))

  module _ (x p : ℕ) (hx : x < n) (e : up x ≡ p) (ends : n ≤ climb up n x) where
    short : rank p < n
    short =
        let q : climb up (suc (n - 1)) x ≡ climb up (n - 1) p = climb_out up (n - 1) x ∙ ap (climb up (n - 1)) e in
        let z : suc (n - 1) ≡ n = omega arith in
        let top : n ≤ climb up (n - 1) p = rw q at (subst (λ (k : ℕ). n ≤ climb up k x) (sym z) ends) in
        by_test (ltb (rank p) n) (λ t. ltb-true (rank p) n t)
        (λ t. let below = (says p).fails (n - 1) (omega (arith, ltb-false (rank p) n t)) in
        absurd (omega (arith, leb-false n (climb up (n - 1) p) below)))

    low : (k : ℕ) → k < rank p + 1 → leb n (climb up k x) ≡ false
    low zero l = lt-leb n x hx
    low (suc k) l = rw (climb_out up k x, e) ((says p).fails k (omega arith))

    -- a node whose way up ends has its parent's rank and one more
    pub rank_more : rank x ≡ rank p + 1
    rank_more =
        least_is (λ k. leb n (climb up k x)) n (rank p + 1)
        (record {
          le = omega (arith, short);
          holds = λ l. rw (add-one, climb_out up (rank p) x, e) ((says p).holds short);
          fails = low;
        })
