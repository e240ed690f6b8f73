-- The entries one at a time give the verdict on the whole graph.
-- Assumes nothing.
use Prim.Native.Nat.{ℕ, ◌<◌, ◌≤◌}
use mathlib.Core.Path.{◌≡◌, refl, sym, ap, ◌∙◌}
use mathlib.Core.Bool.{Bool, false}
use mathlib.Core.List.{List, [], ◌∷◌}
use native.Mathlib.Omega.{arith}
use borrow.Author.Tests.{ltb-true, ltb-false, eq-eqb, ne_eqb}
use lib.Dec.{ltb, leb, eqb}
use lib.ListN.{get_or, length, replicate, get_or-eq_default}
use Rattle.laws.specs.Search.{least}
use Rattle.laws.proofs.Tests.{by_test}
use Rattle.laws.proofs.Search.{least_says, least_ext, any_no}
use Rattle.graph.specs.Graph.{times, joined, any_in, parent_of, endless, graph_broken, graph_items, graph_item, graph_fault}
use Rattle.graph.specs.declared.roots.Roots.{Roots}
use Rattle.graph.specs.Stream.{feed_all, link_past, up_in, endless_in, first_twice, first_endless, roots_verdict, verdict_of}
use Rattle.graph.specs.Stream.{children_past, children_parents, root_step, marked, unmarked, roots_found, stream_fault}
use Rattle.laws.proofs.Lists.{get_or_any}
use Rattle.graph.proofs.Counting.{times_in, times_joined}
use Rattle.graph.proofs.Climb.{climb_same}
use Rattle.graph.proofs.Reach.{Linked, stays, parent_none}
use Rattle.graph.proofs.Tests.{Holds, linked}
use Rattle.graph.proofs.Feeding.{feed_test, feed_all_test}
use Rattle.graph.proofs.Standing.{length_parents, entry_none, entry_once, entry_twice}
use Rattle.graph.proofs.Marking.{found_past, found_twice, found_parented}

-- two tests that agree
any_same : (f g : ℕ → Bool) → ((x : ℕ) → f x ≡ g x) → (list : List ℕ) → any_in f list ≡ any_in g list
unfolding any_in
any_same f g h [] = refl
any_same f g h (x ∷ list) = rw (h x, any_same f g h list)

-- rule 41
past_is : (kids : List (List ℕ)) → children_past kids ≡ least (λ i. any_in (leb (length kids)) (get_or kids i [])) (length kids)
unfolding children_past link_past
past_is kids =
    let n = length kids in
    feed_all_test (link_past n) (λ s. s) (any_in (leb n)) (λ i s. Unit {0}) (λ list. Unit {0}) n
    (λ s i list l q ok.
    feed_test (link_past n) (λ s. s) (leb n) (λ s. Unit {0}) (λ s i x ok. refl) (λ s i x ok. tt) s i list tt)
    (λ s i list q ok. tt)
    n 0 kids (omega arith) (omega arith) (λ k l. tt) tt
    ∙ omega (arith, (least_says (λ i. any_in (leb n) (get_or kids i [])) n).le)

module _ (kids : List (List ℕ)) (small : length kids < 65535) where
  -- the list of parents after all children
  abbrev parents : List ℕ
  parents = children_parents kids

  -- as many entries as nodes
  wide : length parents ≡ length kids
  wide = length_parents kids small

  -- a parent is at most the number of nodes
  parent_low : (x : ℕ) → parent_of kids x ≤ length kids
  parent_low x = (least_says (λ p. ltb 0 (times x (get_or kids p []))) (length kids)).le

  -- and so is the entry of a node that is a child at most once
  entry_low : (x : ℕ) → x < length kids → times x (joined kids) ≤ 1 → get_or parents x 0 ≤ length kids
  entry_low x l h =
      by_test (ltb 0 (times x (joined kids)))
      (λ t. omega (arith, entry_once kids small x l (omega (arith, ltb-true 0 (times x (joined kids)) t)), parent_low x))
      (λ f. omega (arith, entry_none kids small x l (omega (arith, ltb-false 0 (times x (joined kids)) f))))

  -- rule 42
  twice_is : first_twice parents ≡ least (λ x. ltb 1 (times x (joined kids))) (length kids)
  unfolding first_twice
  twice_is = rw wide (least_ext _ _ (length kids) same)
    where
      same : (x : ℕ) → x < length kids → eqb (get_or parents x 0) 65535 ≡ ltb 1 (times x (joined kids))
      same x l =
          by_test (ltb 1 (times x (joined kids)))
          (λ t. rw t (eq-eqb (get_or parents x 0) 65535 (entry_twice kids small x l (ltb-true 1 (times x (joined kids)) t))))
          (λ f. rw f (ne_eqb (get_or parents x 0) 65535
          (λ e. omega (arith, e, entry_low x l (ltb-false 1 (times x (joined kids)) f)))))

  -- where rules 41 and 42 hold, the list of parents is the parents
  pub up_is : Linked kids → (x : ℕ) → up_in parents x ≡ parent_of kids x
  up_is ok x =
      by_test (ltb x (length kids))
      (λ t. let l = ltb-true x (length kids) t in
      get_or_any parents x (length parents) 0 (omega (arith, wide))
      ∙ by_test (ltb 0 (times x (joined kids)))
      (λ u. entry_once kids small x l (omega (arith, ltb-true 0 (times x (joined kids)) u, ok.once x)))
      (λ f. let z : times x (joined kids) ≡ 0 = omega (arith, ltb-false 0 (times x (joined kids)) f) in
      entry_none kids small x l z
      ∙ sym (parent_none kids x (λ p c. omega (arith, times_in x (get_or kids p []) c.1, times_joined x p kids)))))
      (λ f. get_or-eq_default parents (length parents) (omega (arith, wide, ltb-false x (length kids) f))
      ∙ omega (arith, wide, parent_low x, stays kids ok x (ltb-false x (length kids) f)))

  -- rule 43
  endless_is : Linked kids → first_endless parents ≡ least (endless kids) (length kids)
  unfolding first_endless endless_in endless
  endless_is ok =
      rw wide (least_ext _ _ (length kids) (λ x l.
      rw (climb_same (up_in parents) (parent_of kids) (up_is ok) (length parents) x, wide) refl))

-- The answers rule by rule, each where the smaller rules that it needs hold, are the verdict.
module _ (kids roots : List (List ℕ)) (past : ℕ) (parents : List ℕ) (found : Roots) where
  -- the smallest item that breaks a rule
  abbrev item : ℕ → ℕ
  item = graph_item kids roots

  -- no item breaks a rule
  abbrev holds : ℕ → Type 0
  holds = Holds kids roots

  -- a test that fails: the rule holds
  clean : (k : ℕ) → ltb (item k) (graph_items kids roots k) ≡ false → holds k
  clean k f = any_no (graph_broken kids roots k) (graph_items kids roots k) f

  -- six answers in their order are the fault
  agree : past ≡ item 0 → length parents ≡ length kids → first_twice parents ≡ item 1
      → (holds 0 → holds 1 → first_endless parents ≡ item 2)
      → found.past ≡ item 3 → (holds 3 → found.twice ≡ item 4) → (holds 0 → holds 1 → found.parented ≡ item 5)
      → verdict_of past parents (length roots) found ≡ graph_fault kids roots
  unfolding verdict_of roots_verdict graph_fault
  agree e0 en e1 e2 e3 e4 e5 =
      rw (e0, en, e1, e3)
      (by_test (ltb (item 0) (length kids)) (λ t. rw t refl)
      (λ f0. by_test (ltb (item 1) (length kids)) (λ t. rw (f0, t) refl)
      (λ f1. let h0 = clean 0 f0 in
      let h1 = clean 1 f1 in
      rw (f0, f1, e2 h0 h1)
      (by_test (ltb (item 2) (length kids)) (λ t. rw t refl)
      (λ f2. by_test (ltb (item 3) (length roots)) (λ t. rw (f2, t) refl)
      (λ f3. rw (f2, f3, e4 (clean 3 f3))
      (by_test (ltb (item 4) (length roots)) (λ t. rw t refl)
      (λ f4. rw (f4, e5 h0 h1)
      (by_test (ltb (item 5) (length roots)) (λ t. rw t refl) (λ f5. rw f5 refl))))))))))

-- feeding all children and all roots gives the graph's fault
pub stream_is : (kids roots : List (List ℕ)) → length kids < 65535 → stream_fault kids roots ≡ graph_fault kids roots
unfolding stream_fault
stream_is kids roots small =
    let ps = children_parents kids in
    let wide = length_parents kids small in
    agree kids roots (children_past kids) ps (roots_found ps roots)
    (past_is kids) wide (twice_is kids small)
    (λ h0 h1. endless_is kids small (linked kids roots h0 h1))
    (found_past ps roots ∙ rw wide refl)
    (λ h3. found_twice ps roots (rw wide h3))
    (λ h0 h1. found_parented ps roots
    ∙ least_ext _ _ (length roots) (λ k l.
    any_same _ _ (λ x. rw (up_is kids small (linked kids roots h0 h1) x, wide) refl) (get_or roots k [])))

-- the same for whoever holds the parts
pub stream_verdict : (kids roots : List (List ℕ)) → length kids < 65535
    → {past scenes : ℕ} {parents : List ℕ} {found : Roots}
    → past ≡ children_past kids → parents ≡ children_parents kids → found ≡ roots_found parents roots → scenes ≡ length roots
    → verdict_of past parents scenes found ≡ graph_fault kids roots
stream_verdict kids roots small {past} {scenes} {parents} {found} p q r s =
    ap (λ (n : ℕ). verdict_of n parents scenes found) p
    ∙ ap (λ (f : Roots). verdict_of (children_past kids) parents scenes f) r
    ∙ ap (λ (n : ℕ). verdict_of (children_past kids) parents n (roots_found parents roots)) s
    ∙ ap (λ (ps : List ℕ). verdict_of (children_past kids) ps (length roots) (roots_found ps roots)) q
    ∙ (unfold stream_fault in stream_is kids roots small)

-- the roots found from marks that are all unset
pub found_from : (parents : List ℕ) (roots : List (List ℕ)) (scenes : ℕ) → length roots ≡ scenes → {marks : List ℕ}
    → marks ≡ replicate (length parents) scenes
    → (feed_all (root_step parents) (marked (record { past = scenes; twice = scenes; parented = scenes }) marks) 0 roots).found
    ≡ roots_found parents roots
unfolding roots_found
found_from parents roots scenes e {marks} m =
    let none : Roots = record { past = scenes; twice = scenes; parented = scenes } in
    ap (λ (marks : List ℕ). (feed_all (root_step parents) (marked none marks) 0 roots).found) m
    ∙ ap (λ (n : ℕ). (feed_all (root_step parents) (unmarked (length parents) n) 0 roots).found) (sym e)
