-- Each test of rules 41 to 46 against the rule in the paper's words.
-- Assumes nothing.
use Prim.Native.Nat.{ℕ, zero, suc, ◌+◌, ◌-◌, ◌<◌, ◌≤◌}
use mathlib.Core.Path.{◌≡◌, sym, ◌∙◌}
use mathlib.Core.Bool.{true, false, true≢false}
use mathlib.Core.List.{List, []}
use native.Mathlib.Omega.{arith}
use borrow.Author.Tests.{ltb-true, ltb-false, lt-ltb, leb-true, le-leb}
use lib.Dec.{ltb, leb}
use lib.ListN.{get_or, length}
use Rattle.laws.proofs.Tests.{by_test}
use Rattle.graph.specs.Graph.{joined, times, any_in, parent_of, endless, graph_broken, graph_items}
use Rattle.graph.specs.Rules.{Child, Broken}
use Rattle.graph.specs.Rules.Broken.{child_past, child_again, no_top, root_past, root_again, root_below}
use Rattle.graph.proofs.Counting.{in_times, times_again, again_times, joined_where}
use Rattle.graph.proofs.Counting.{any_in_lem, in_any, repeats_again, again_repeats}
use Rattle.graph.proofs.Reach.{Linked, parent_child, no_parent, endless_never, ends_reaches}

-- no item breaks rule 41 + k
abbrev pub Holds : List (List ℕ) → List (List ℕ) → ℕ → Type 0
Holds kids roots k = (i : ℕ) → i < graph_items kids roots k → graph_broken kids roots k i ≡ false

module _ (kids roots : List (List ℕ)) where
  -- what rules 41 and 42 say together
  pub linked_said : ((i : ℕ) → Broken kids roots 41 i → ⊥) → ((i : ℕ) → Broken kids roots 42 i → ⊥) → Linked kids
  linked_said h41 h42 = record { nodes = nodes; once = once }
    where
      nodes : (p x : ℕ) → Child kids p x → x < length kids
      nodes p x c =
          by_test (ltb x (length kids)) (λ t. ltb-true x (length kids) t)
          (λ f. absurd (h41 p (child_past p x c (ltb-false x (length kids) f))))

      once : (x : ℕ) → times x (joined kids) ≤ 1
      once x =
          by_test (ltb 1 (times x (joined kids)))
          (λ t. let a = ltb-true 1 (times x (joined kids)) t in
          let w = joined_where x kids (omega arith) in
          let l = nodes w.list x (w.below, in_times x (get_or kids w.list []) w.here) in
          absurd (h42 x (child_again x l (again_times x (joined kids) a))))
          (λ f. ltb-false 1 (times x (joined kids)) f)

  -- a list with an entry that is no node
  past : (lists : List (List ℕ)) (n i : ℕ) → any_in (leb n) (get_or lists i []) ≡ true → i < length lists
      → (x : ℕ) × Child lists i x × (n ≤ x)
  past lists n i t l = let p = in_any (leb n) (get_or lists i []) t in (p.entry, (l, p.there), leb-true _ _ p.passes)

  -- a scene with a root that has a parent
  below : (i : ℕ) → any_in (λ x. ltb (parent_of kids x) (length kids)) (get_or roots i []) ≡ true → i < length roots
      → Broken kids roots 46 i
  below i t l =
      let p = in_any (λ x. ltb (parent_of kids x) (length kids)) (get_or roots i []) t in
      let c = parent_child kids p.entry (ltb-true _ _ p.passes) in
      root_below i p.entry (parent_of kids p.entry) (l, p.there) c

  -- a test that holds: the rule is broken
  pub test_broken : (k i : ℕ) → (1 < k → Linked kids) → k < 6 → i < graph_items kids roots k
      → graph_broken kids roots k i ≡ true → Broken kids roots (41 + k) i
  test_broken zero i ok h l t = let w = past kids (length kids) i t l in child_past i w.0 w.1 w.2
  test_broken (suc zero) i ok h l t = child_again i l (again_times i (joined kids) (ltb-true _ _ t))
  test_broken (suc (suc zero)) i ok h l t = no_top i l (endless_never kids (ok (omega arith)) i t)
  test_broken (suc (suc (suc zero))) i ok h l t = let w = past roots (length kids) i t l in root_past i w.0 w.1 w.2
  test_broken (suc (suc (suc (suc zero)))) i ok h l t =
      let w = again_repeats (get_or roots i []) t in
      root_again i w.0 l w.1
  test_broken (suc (suc (suc (suc (suc zero))))) i ok h l t = below i t l
  test_broken (suc (suc (suc (suc (suc (suc k)))))) i ok h l t = absurd (omega arith)

  -- the test of the rule with this number
  pub record Test (n i : ℕ) : Type 0 where
    pub from : 41 ≤ n
    pub to : n < 47
    pub item : i < graph_items kids roots (n - 41)
    pub holds : graph_broken kids roots (n - 41) i ≡ true

  -- a rule that is broken: the test holds
  pub broken_test : {n i : ℕ} → (42 < n → Linked kids) → Broken kids roots n i → Test n i
  broken_test ok (child_past node x c l) =
      let t = any_in_lem (leb (length kids)) x (get_or kids node []) c.1 (le-leb _ _ l) in
      record { from = omega arith; to = omega arith; item = c.0; holds = t }
  broken_test ok (child_again x l a) =
      record { from = omega arith; to = omega arith; item = l; holds = lt-ltb _ _ (times_again x (joined kids) a) }
  broken_test ok (no_top x l h) =
      record {
        from = omega arith;
        to = omega arith;
        item = l;
        holds = by_test (endless kids x) (λ t. t) (λ f. absurd (h (ends_reaches kids (ok (omega arith)) x l f)));
      }
  broken_test ok (root_past scene x c l) =
      let t = any_in_lem (leb (length kids)) x (get_or roots scene []) c.1 (le-leb _ _ l) in
      record { from = omega arith; to = omega arith; item = c.0; holds = t }
  broken_test ok (root_again scene x l a) =
      record { from = omega arith; to = omega arith; item = l; holds = repeats_again x (get_or roots scene []) a }
  broken_test ok (root_below scene x p c d) =
      record {
        from = omega arith;
        to = omega arith;
        item = c.0;
        holds = any_in_lem _ x (get_or roots scene []) c.1
            (by_test (ltb (parent_of kids x) (length kids)) (λ t. t) (λ f. absurd (no_parent kids x (ltb-false _ _ f) p d)));
      }

  -- the same from the tests
  pub linked : Holds kids roots 0 → Holds kids roots 1 → Linked kids
  linked h41 h42 =
      linked_said
      (λ i b. let t = broken_test (λ h. absurd (omega arith)) b in true≢false (sym t.holds ∙ h41 i t.item))
      (λ i b. let t = broken_test (λ h. absurd (omega arith)) b in true≢false (sym t.holds ∙ h42 i t.item))
