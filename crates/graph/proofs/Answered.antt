-- The code's answers keep all of the definitions' answers.
-- Assumes nothing.
use mathlib.Core.Path.{◌≡◌, refl, sym, ap, ◌∙◌}
use Rattle.std.proofs.Common.{ℕ, ◌||◌, List, length, ltb, arith, eqb, eqb-true}
use Rattle.laws.proofs.Tests.{by_test}
use Rattle.graph.specs.declared.verdict.Fault.{Fault}
use Rattle.graph.specs.declared.roots.Roots.{Roots}
use Rattle.graph.specs.Graph.{graph_fault, graph_rule}
use Rattle.graph.specs.Stream.{verdict_of, roots_verdict, first_twice, first_endless}
use Rattle.graph.specs.Packing.{packed_fault_of, packed_lists, misplaced}
use Rattle.graph.specs.Results.{outcome_of, fault_of, Whole}

-- the fault is read back from the answer
pub fault_back : (fault : Fault) → Whole fault → fault_of (outcome_of fault) ≡ fault
unfolding outcome_of fault_of
fault_back fault whole =
    by_test (eqb fault.number 0)
    (λ t. let n : fault.number ≡ 0 = eqb-true fault.number 0 t in
    let i : fault.item ≡ 0 = whole n in
    rw t (rw (n, i) refl))
    (λ f. rw f refl)

-- so different faults give different answers
pub outcome_of_injective : (a b : Fault) → Whole a → Whole b → outcome_of a ≡ outcome_of b → a ≡ b
outcome_of_injective a b wa wb e = sym (fault_back a wa) ∙ ap fault_of e ∙ fault_back b wb

-- the faults of the definitions are such: of a graph, ..
pub graph_whole : (kids roots : List (List ℕ)) → Whole (graph_fault kids roots)
unfolding graph_fault
graph_whole kids roots =
    by_test (ltb (graph_rule kids roots) 6) (λ t. rw t (λ n. absurd (omega arith))) (λ f. rw f (λ n. refl))

-- .. of what was kept of its entries, ..
pub verdict_whole : (past : ℕ) (parents : List ℕ) (scenes : ℕ) (found : Roots)
    → Whole (verdict_of past parents scenes found)
unfolding verdict_of roots_verdict
verdict_whole past parents scenes found =
    by_test (ltb past (length parents)) (λ t. rw t (λ n. absurd (omega arith)))
    (λ a. by_test (ltb (first_twice parents) (length parents)) (λ t. rw (a, t) (λ n. absurd (omega arith)))
    (λ b. by_test (ltb (first_endless parents) (length parents)) (λ t. rw (a, b, t) (λ n. absurd (omega arith)))
    (λ d. by_test (ltb found.past scenes) (λ t. rw (a, b, d, t) (λ n. absurd (omega arith)))
    (λ e. by_test (ltb found.twice scenes) (λ t. rw (a, b, d, e, t) (λ n. absurd (omega arith)))
    (λ f. by_test (ltb found.parented scenes) (λ t. rw (a, b, d, e, f, t) (λ n. absurd (omega arith)))
    (λ g. rw (a, b, d, e, f, g) (λ n. refl)))))))

-- .. and of packed lists
pub packed_fault_whole : (ns nl ch : List ℕ) (n : ℕ) (ss sl ro : List ℕ) (s : ℕ)
    → Whole (packed_fault_of ns nl ch n ss sl ro s)
unfolding packed_fault_of
packed_fault_whole ns nl ch n ss sl ro s =
    by_test (misplaced 128 ns nl ch n || misplaced 8 ss sl ro s) (λ t. rw t (λ n. absurd (omega arith)))
    (λ f. rw f (graph_whole (packed_lists ns nl ch n) (packed_lists ss sl ro s)))
