-- The verdict is the paper's: rule and item.
-- Assumes nothing.
use Prim.Native.Nat.{ℕ, ◌+◌, ◌-◌, ◌<◌}
use mathlib.Core.Path.{◌≡◌, sym, ◌∙◌, subst}
use mathlib.Core.Bool.{true, true≢false}
use mathlib.Core.List.{List}
use native.Mathlib.Omega.{arith}
use borrow.Author.Tests.{ltb-true, ltb-false}
use lib.Dec.{ltb}
use Rattle.laws.specs.Search.{any_below}
use Rattle.laws.proofs.Tests.{by_test}
use Rattle.laws.proofs.Search.{Least, least_says, any_no, any_at}
use Rattle.laws.specs.Verdict.{Smallest}
use Rattle.graph.specs.Graph.{graph_broken, graph_items, graph_item, graph_rule, graph_fault}
use Rattle.graph.specs.Rules.{Broken, Answer}
use Rattle.graph.specs.Rules.Answer.{sound, faulty}
use Rattle.graph.proofs.Reach.{Linked}
use Rattle.graph.proofs.Tests.{Holds, linked, test_broken, broken_test}

module _ (kids roots : List (List ℕ)) where
  -- the rule that is found
  abbrev rule : ℕ
  rule = graph_rule kids roots

  -- what that means
  says : Least (λ k. any_below (graph_broken kids roots k) (graph_items kids roots k)) 6 rule
  says = least_says (λ k. any_below (graph_broken kids roots k) (graph_items kids roots k)) 6

  -- below the rule that is found all rules hold
  pub below_holds : (k : ℕ) → k < rule → Holds kids roots k
  below_holds k l = any_no (graph_broken kids roots k) (graph_items kids roots k) (says.fails k l)

  -- rules 41 and 42 together, where they are below it
  below_linked : 1 < rule → Linked kids
  below_linked l = linked kids roots (below_holds 0 (omega arith)) (below_holds 1 (omega arith))

  -- no rule below it is broken
  below_sound : (n i : ℕ) → n < 41 + rule → Broken kids roots n i → ⊥
  below_sound n i l b =
      let t = broken_test kids roots (λ h. below_linked (omega arith)) b in
      true≢false (sym t.holds ∙ below_holds (n - 41) (omega (arith, t.from)) i t.item)

  -- it is broken, by its item first
  verdict : rule < 6 → Smallest (Broken kids roots) (41 + rule) (graph_item kids roots rule)
  verdict l =
      let a = any_at (graph_broken kids roots rule) (graph_items kids roots rule) (says.holds l) in
      record {
        broken = test_broken kids roots rule (graph_item kids roots rule) below_linked l a.0 a.1;
        items = λ i h b.
            (let t = broken_test kids roots (λ h. below_linked (omega arith)) b in
            let e : (41 + rule) - 41 ≡ rule = omega arith in
            true≢false
            (sym (subst (λ (k : ℕ). graph_broken kids roots k i ≡ true) e t.holds)
            ∙ (least_says (graph_broken kids roots rule) (graph_items kids roots rule)).fails i h));
        rules = below_sound;
      }

  -- so the fault is the answer
  pub answer : Answer kids roots (graph_fault kids roots)
  unfolding graph_fault
  answer =
      by_test (ltb rule 6)
      (λ t. rw t (faulty (41 + rule) (graph_item kids roots rule) (verdict (ltb-true _ _ t))))
      (λ f. let h = ltb-false rule 6 f in
      rw f (sound (λ n i b. let t = broken_test kids roots (λ l. below_linked (omega arith)) b in
      below_sound n i (omega (arith, t.to)) b)))
