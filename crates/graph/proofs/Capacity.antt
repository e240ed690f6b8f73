-- What an accepted graph's lists hold in all: nothing is cut off where they are packed.
-- Assumes nothing.
use Prim.Native.Nat.{ℕ, suc, ◌*◌, ◌<◌, ◌≤◌}
use mathlib.Core.Path.{◌≡◌, refl, sym, ◌∙◌}
use mathlib.Core.Bool.{false, true≢false}
use mathlib.Core.List.{List, [], ◌∷◌}
use native.Mathlib.Nat.{suc-mul, le_trans}
use native.Mathlib.Omega.{arith}
use borrow.Author.Tests.{ltb-true, ltb-false, le-leb}
use lib.Dec.{ltb, leb}
use lib.ListN.{get_or, length, length-append}
use Rattle.laws.proofs.Tests.{by_test}
use Rattle.laws.proofs.Pigeonhole.{pigeonhole}
use Rattle.graph.specs.Graph.{joined, any_in, repeats, graph_rule, graph_fault}
use Rattle.graph.specs.Rules.{Again}
use Rattle.graph.specs.Rules.In.{at}
use Rattle.graph.proofs.Counting.{times_in, in_times, joined_where, once_no_repeat, any_in_lem, repeats_again}
use Rattle.graph.proofs.Reach.{Linked}
use Rattle.graph.proofs.Tests.{Holds, linked}
use Rattle.graph.proofs.Verdicts.{below_holds}

-- where rules 41 and 42 hold, all children together are at most as many as nodes
pub children_fit : (kids : List (List ℕ)) → Linked kids → length (joined kids) ≤ length kids
children_fit kids ok =
    pigeonhole (length kids) (joined kids)
    (λ i l. let x = get_or (joined kids) i 0 in
    let w = joined_where x kids (times_in x (joined kids) (at i l refl)) in
    ok.nodes w.list x (w.below, in_times x (get_or kids w.list []) w.here))
    (once_no_repeat (joined kids) ok.once)

-- a list of numbers below n without a repeat
list_fits : (n : ℕ) (list : List ℕ) → any_in (leb n) list ≡ false → repeats list ≡ false → length list ≤ n
list_fits n list below once =
    pigeonhole n list
    (λ i l. by_test (ltb (get_or list i 0) n) (λ t. ltb-true (get_or list i 0) n t)
    (λ f. let h = le-leb n (get_or list i 0) (ltb-false (get_or list i 0) n f) in
    let t = any_in_lem (leb n) (get_or list i 0) list (at i l refl) h in
    absurd (true≢false (sym t ∙ below))))
    (λ i j l h e. true≢false (sym (repeats_again (get_or list j 0) list (Again.at i j l h e refl)) ∙ once))

-- lists of at most n entries each
joined_fits : (n : ℕ) (lists : List (List ℕ)) → ((k : ℕ) → k < length lists → length (get_or lists k []) ≤ n)
    → length (joined lists) ≤ length lists * n
unfolding joined
joined_fits n [] h = omega arith
joined_fits n (list ∷ lists) h =
    let rest = joined_fits n lists (λ k l. h (suc k) (omega arith)) in
    omega (arith, length-append list (joined lists), h 0 (omega arith), rest, suc-mul (length lists) n)

module _ (kids roots : List (List ℕ)) where
  -- where rules 44 and 45 hold, a scene lists at most as many roots as there are nodes
  pub roots_fit : Holds kids roots 3 → Holds kids roots 4 → (i : ℕ) → i < length roots
      → length (get_or roots i []) ≤ length kids
  roots_fit h3 h4 i l = list_fits (length kids) (get_or roots i []) (h3 i l) (h4 i l)

  -- no rule is broken
  pub sound_holds : (graph_fault kids roots).number ≡ 0 → (k : ℕ) → k < 6 → Holds kids roots k
  unfolding graph_fault
  sound_holds e k l =
      by_test (ltb (graph_rule kids roots) 6)
      (λ t. absurd (omega (arith, rw t at e)))
      (λ f. below_holds kids roots k (omega (arith, ltb-false (graph_rule kids roots) 6 f)))

  -- an accepted graph's lists fit their capacities whole
  pub packed_fits : (graph_fault kids roots).number ≡ 0 → length kids ≤ 128 → length roots ≤ 8
      → (length (joined kids) ≤ 128) × (length (joined roots) ≤ 1024)
  packed_fits e h k =
      let ok = sound_holds e in
      let fit = roots_fit (ok 3 (omega arith)) (ok 4 (omega arith)) in (
        omega (arith, children_fit kids (linked kids roots (ok 0 (omega arith)) (ok 1 (omega arith)))),
        omega (arith, joined_fits 128 roots (λ i l. le_trans (fit i l) h)),
      )
