-- A rule table in stages: each stage has the rules of one range, and answers with the smallest of them that is broken.
-- Whoever goes through the stages in order and stops at the first that finds a rule has the smallest of all.
-- Assumes nothing.
use Prim.Native.Nat.{ℕ, zero, suc, ◌<◌, ◌≤◌}
use mathlib.Core.Path.{◌≡◌, subst}
use native.Mathlib.Omega.{arith}
use borrow.Author.Tests.{ltb-true, ltb-false}
use lib.Dec.{ltb}
use Rattle.laws.specs.Verdict.{Smallest}
use Rattle.laws.proofs.Tests.{by_test}

-- what a stage finds: the smallest rule of its family with its smallest item, 0 and 0 where none is broken
pub data Found (B : ℕ → ℕ → Type 0) : ℕ → ℕ → Type 0 where
  none : ((n i : ℕ) → B n i → ⊥) → Found B 0 0
  some : {n i : ℕ} → Smallest B n i → Found B n i

-- the same for a family that says the same
pub found_as : {B D : ℕ → ℕ → Type 0} → ((n i : ℕ) → B n i → D n i) → ((n i : ℕ) → D n i → B n i) → {n i : ℕ}
    → Found B n i → Found D n i
found_as f g (Found.none h) = Found.none (λ n i x. h n i (g n i x))
found_as f g {n} {i} (Found.some s) =
    Found.some (record {
      broken = f n i s.broken;
      rules = λ m j l x. s.rules m j l (g m j x);
      items = λ j l x. s.items j l (g n j x);
    })

-- `Family k` has the rules from `first k` to below `first (suc k)`; together they are `Broken`
pub record Staged (Broken : ℕ → ℕ → Type 0) (Family : ℕ → ℕ → ℕ → Type 0) (first : ℕ → ℕ) : Type 0 where
  pub rises : (k : ℕ) → first k ≤ first (suc k)
  pub range : (k n i : ℕ) → Family k n i → (first k ≤ n) × (n < first (suc k))
  pub positive : (k n i : ℕ) → Family k n i → 0 < n
  pub into : (k n i : ℕ) → Family k n i → Broken n i
  pub out : (n i : ℕ) → Broken n i → (k : ℕ) × Family k n i

-- no rule below n is broken
abbrev pub Clean : (ℕ → ℕ → Type 0) → ℕ → Type 0
Clean Broken n = (m i : ℕ) → m < n → Broken m i → ⊥

-- after the stages below rule `next`: the verdict, or no rule so far
pub data Stage (Broken : ℕ → ℕ → Type 0) (next : ℕ) : ℕ → ℕ → Type 0 where
  stops : {n i : ℕ} → 0 < n → Smallest Broken n i → Stage Broken next n i
  goes : Clean Broken next → Stage Broken next 0 0

module _ {Broken : ℕ → ℕ → Type 0} {Family : ℕ → ℕ → ℕ → Type 0} {first : ℕ → ℕ} (s : Staged Broken Family first) where
  -- later stages have larger rules
  order : (k l : ℕ) → k ≤ l → first k ≤ first l
  order k zero h = let e : k ≡ 0 = omega arith in rw e (omega arith)
  order k (suc l) h =
      by_test (ltb l k)
      (λ t. let u = ltb-true l k t in let e : k ≡ suc l = omega arith in rw e (omega arith))
      (λ t. let u = ltb-false l k t in let a = order k l u in let b = s.rises l in omega arith)

  -- a rule belongs to one stage
  one : (k l n : ℕ) → first k ≤ n → n < first (suc k) → first l ≤ n → n < first (suc l) → l ≡ k
  one k l n a b c d =
      by_test (ltb k l)
      (λ t. let u = ltb-true k l t in let o = order (suc k) l (omega arith) in absurd (omega arith))
      (λ t. let u = ltb-false k l t in
      by_test (ltb l k)
      (λ v. let w = ltb-true l k v in let o = order (suc l) k (omega arith) in absurd (omega arith))
      (λ v. let w = ltb-false l k v in omega arith))

  -- a broken rule in the range of stage k is of its family
  belongs : (k n i : ℕ) → first k ≤ n → n < first (suc k) → Broken n i → Family k n i
  belongs k n i a b x =
      let o = s.out n i x in
      let r = s.range o.0 n i o.1 in
      subst (λ (l : ℕ). Family l n i) (one k o.0 n a b r.0 r.1) o.1

  -- one stage more
  pub stage : (k : ℕ) {n i : ℕ} → Clean Broken (first k) → Found (Family k) n i → Stage Broken (first (suc k)) n i
  stage k c (Found.none h) =
      Stage.goes (λ m i l x. by_test (ltb m (first k)) (λ e. c m i (ltb-true m (first k) e) x)
      (λ e. h m i (belongs k m i (ltb-false m (first k) e) l x)))
  stage k {n} {i} c (Found.some t) =
      let r = s.range k n i t.broken in
      Stage.stops (s.positive k n i t.broken)
      (record {
        broken = s.into k n i t.broken;
        rules = λ m j l x. by_test (ltb m (first k)) (λ e. c m j (ltb-true m (first k) e) x)
            (λ e. t.rules m j l (belongs k m j (ltb-false m (first k) e) (omega arith) x));
        items = λ j l x. t.items j l (belongs k n j r.0 r.1 x);
      })
