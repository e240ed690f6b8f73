-- Rule 43 in the paper's words: where rules 41 and 42 hold, the climb of as many steps as there are nodes is still at a
-- node exactly where going up by parents never reaches a node without a parent.
-- Assumes nothing.
use Prim.Native.Nat.{ℕ, zero, suc, ◌<◌, ◌≤◌}
use mathlib.Core.Path.{◌≡◌}
use mathlib.Core.Bool.{true, false}
use mathlib.Core.List.{List, []}
use native.Mathlib.Omega.{arith}
use borrow.Author.Tests.{ltb-true, ltb-false, lt-ltb, le-ltb}
use lib.Dec.{ltb}
use lib.ListN.{get_or, length}
use Rattle.laws.proofs.Tests.{by_test}
use Rattle.laws.proofs.Search.{Least, least_says, least_is, least_none}
use Rattle.graph.specs.Graph.{joined, times, parent_of, climb, endless}
use Rattle.graph.specs.Rules.{Child, Reaches}
use Rattle.graph.specs.Rules.Reaches.{top, up}
use Rattle.graph.proofs.Counting.{times_in, in_times, times_two}
use Rattle.graph.proofs.Climb.{climb_out, never}

-- rules 41 and 42 hold
pub record Linked (kids : List (List ℕ)) : Type 0 where
  pub nodes : (p x : ℕ) → Child kids p x → x < length kids
  pub once : (x : ℕ) → times x (joined kids) ≤ 1

module _ (kids : List (List ℕ)) where
  -- what the search for a parent means
  abbrev says : (x : ℕ) → Least (λ p. ltb 0 (times x (get_or kids p []))) (length kids) (parent_of kids x)
  says x = least_says (λ p. ltb 0 (times x (get_or kids p []))) (length kids)

  -- the parent that is found lists x
  pub parent_child : (x : ℕ) → parent_of kids x < length kids → Child kids (parent_of kids x) x
  parent_child x l = (l, in_times x (get_or kids (parent_of kids x) []) (ltb-true 0 _ ((says x).holds l)))

  -- where none is found, no node lists x, ..
  pub no_parent : (x : ℕ) → length kids ≤ parent_of kids x → (p : ℕ) → Child kids p x → ⊥
  no_parent x l p (h, i) =
      omega (arith, times_in x (get_or kids p []) i, ltb-false 0 (times x (get_or kids p [])) ((says x).fails p (omega arith)))

  -- .. and the other way round
  pub parent_none : (x : ℕ) → ((p : ℕ) → Child kids p x → ⊥) → parent_of kids x ≡ length kids
  parent_none x h =
      least_none _ (length kids)
      (λ p l. by_test (ltb 0 (times x (get_or kids p [])))
      (λ t. absurd (h p (l, in_times x (get_or kids p []) (ltb-true 0 _ t))))
      (λ f. f))

  module _ (ok : Linked kids) where
    -- a node that lists x is the parent
    pub parent_is : (x p : ℕ) → Child kids p x → parent_of kids x ≡ p
    parent_is x p (h, i) =
        let here : 0 < times x (get_or kids p []) = times_in x (get_or kids p []) i in
        least_is (λ q. ltb 0 (times x (get_or kids q []))) (length kids) p
        (record {
          le = omega arith;
          holds = λ _. lt-ltb 0 (times x (get_or kids p [])) here;
          fails = λ q l. le-ltb 0 (times x (get_or kids q [])) (omega (arith, times_two x q p kids l, ok.once x));
        })

    -- past the nodes there is no parent
    pub stays : (y : ℕ) → length kids ≤ y → length kids ≤ parent_of kids y
    stays y l =
        by_test (ltb (parent_of kids y) (length kids))
        (λ t. absurd (omega (arith, ok.nodes (parent_of kids y) y (parent_child y (ltb-true _ _ t)))))
        (λ f. ltb-false _ _ f)

    -- a climb that ends reaches a node without a parent, ..
    climb_reaches : (k x : ℕ) → x < length kids → length kids ≤ climb (parent_of kids) k x → Reaches kids x
    climb_reaches zero x l h = absurd (omega arith)
    climb_reaches (suc k) x l h =
        by_test (ltb (parent_of kids x) (length kids))
        (λ t. let c = parent_child x (ltb-true _ _ t) in
        up (parent_of kids x) c (climb_reaches k (parent_of kids x) c.0 (rw climb_out at h)))
        (λ f. top (no_parent x (ltb-false _ _ f)))

    -- .. and the other way round
    reaches_climb : {x : ℕ} → Reaches kids x → (k : ℕ) × (length kids ≤ climb (parent_of kids) k x)
    reaches_climb {x} (top h) = (1, rw (parent_none x h) (omega arith))
    reaches_climb {x} (up p c r) =
        let w = reaches_climb r in
        (suc w.0, rw (climb_out (parent_of kids) w.0 x, parent_is x p c) w.1)

    pub endless_never : (x : ℕ) → endless kids x ≡ true → Reaches kids x → ⊥
    unfolding endless
    endless_never x t r =
        let w = reaches_climb r in
        omega (arith, w.1, never (parent_of kids) (length kids) x stays (ltb-true _ _ t) w.0)

    pub ends_reaches : (x : ℕ) → x < length kids → endless kids x ≡ false → Reaches kids x
    unfolding endless
    ends_reaches x l f = climb_reaches (length kids) x l (ltb-false _ _ f)
