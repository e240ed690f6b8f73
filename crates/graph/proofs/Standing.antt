-- The entry of one child in the list of parents: none, the only node that lists it, or 65535 where it stands twice.
-- Assumes nothing.
use Prim.Native.Nat.{ℕ, zero, suc, ◌+◌, ◌<◌, ◌≤◌}
use mathlib.Core.Path.{◌≡◌, refl, sym, ◌∙◌}
use mathlib.Core.Bool.{cond}
use mathlib.Core.List.{List, [], ◌∷◌}
use native.Mathlib.Omega.{arith}
use native.Mathlib.Nat.{add-zero}
use borrow.Author.Tests.{ltb-true, ltb-false, eqb-true, eqb-false, eq-eqb, ne_eqb}
use lib.Dec.{ltb, eqb}
use lib.ListN.{get_or, length, length-set, replicate, length-replicate, get_or-replicate}
use lib.Seq.{get_or-set_same, get_or-set_other}
use Rattle.laws.specs.Search.{least}
use Rattle.laws.proofs.Tests.{by_test}
use Rattle.graph.specs.Graph.{times, joined, parent_of}
use Rattle.graph.specs.Stream.{feed, feed_all, link_parents, children_parents}
use Rattle.graph.proofs.Counting.{times_append}

-- the entry v of a child that node i lists once more
mark : ℕ → ℕ → ℕ → ℕ
mark n v i = cond (eqb v n) i 65535

-- .. and t times more
standing : ℕ → ℕ → ℕ → ℕ → ℕ
standing n v i zero = v
standing n v i (suc t) = standing n (mark n v i) i t

-- the list of parents keeps its length
length-link : (ps : List ℕ) (i c : ℕ) → length (link_parents ps i c) ≡ length ps
unfolding link_parents
length-link ps i c = simp length-set

-- one child changes its own entry alone
get_or-link : (ps : List ℕ) (i c x : ℕ) → x < length ps
    → get_or (link_parents ps i c) x 0 ≡ cond (eqb c x) (mark (length ps) (get_or ps x 0) i) (get_or ps x 0)
unfolding link_parents mark
get_or-link ps i c x l =
    by_test (eqb c x)
    (λ t. let e = eqb-true c x t in rw (t, e) (get_or-set_same ps x _ 0 l))
    (λ f. rw f (get_or-set_other ps c x _ 0 (λ e. eqb-false c x f (sym e))))

-- the length after one list
length-feed : (ps : List ℕ) (i : ℕ) (list : List ℕ) → length (feed link_parents ps i list) ≡ length ps
unfolding feed
length-feed ps i [] = refl
length-feed ps i (c ∷ list) = length-feed (link_parents ps i c) i list ∙ length-link ps i c

-- the entry of x after one list
get_or-feed : (ps : List ℕ) (i : ℕ) (list : List ℕ) (x : ℕ) → x < length ps
    → get_or (feed link_parents ps i list) x 0 ≡ standing (length ps) (get_or ps x 0) i (times x list)
unfolding feed times standing
get_or-feed ps i [] x l = refl
get_or-feed ps i (c ∷ list) x l =
    get_or-feed (link_parents ps i c) i list x (omega (arith, length-link ps i c))
    ∙ rw (length-link ps i c, get_or-link ps i c x l)
    (by_test (eqb c x) (λ t. rw t refl) (λ f. rw f refl))

-- the entry v of x after all lists
stands : ℕ → ℕ → ℕ → ℕ → List (List ℕ) → ℕ
stands n x v i [] = v
stands n x v i (list ∷ lists) = stands n x (standing n v i (times x list)) (suc i) lists

-- the length after all lists
length-feed_all : (ps : List ℕ) (i : ℕ) (lists : List (List ℕ)) → length (feed_all link_parents ps i lists) ≡ length ps
unfolding feed_all
length-feed_all ps i [] = refl
length-feed_all ps i (list ∷ lists) = length-feed_all (feed link_parents ps i list) (suc i) lists ∙ length-feed ps i list

-- the entry of x after all lists
get_or-feed_all : (ps : List ℕ) (i : ℕ) (lists : List (List ℕ)) (x : ℕ) → x < length ps
    → get_or (feed_all link_parents ps i lists) x 0 ≡ stands (length ps) x (get_or ps x 0) i lists
unfolding feed_all stands
get_or-feed_all ps i [] x l = refl
get_or-feed_all ps i (list ∷ lists) x l =
    get_or-feed_all (feed link_parents ps i list) (suc i) lists x (omega (arith, length-feed ps i list))
    ∙ rw (length-feed ps i list, get_or-feed ps i list x l) refl

-- There are n nodes, and the number for twice is none of them.
module _ (n x : ℕ) (small : n < 65535) where
  -- a child that has a parent
  marked : (v i : ℕ) → (v ≡ n → ⊥) → mark n v i ≡ 65535
  unfolding mark
  marked v i ne = rw (ne_eqb v n ne)

  -- a child that has none
  first : (i : ℕ) → mark n n i ≡ i
  unfolding mark
  first i = rw (eq-eqb n n refl)

  -- 65535 stays
  standing_stays : (i t : ℕ) → standing n 65535 i t ≡ 65535
  unfolding standing
  standing_stays i zero = refl
  standing_stays i (suc t) = rw (marked 65535 i (λ e. omega arith)) (standing_stays i t)

  -- a child that has a parent, listed again
  standing_other : (v i t : ℕ) → (v ≡ n → ⊥) → 0 < t → standing n v i t ≡ 65535
  unfolding standing
  standing_other v i zero ne h = absurd (omega arith)
  standing_other v i (suc t) ne h = rw (marked v i ne) (standing_stays i t)

  -- a child that has none, listed once
  standing_once : (i t : ℕ) → t ≡ 1 → standing n n i t ≡ i
  unfolding standing
  standing_once i t e = rw e (first i)

  -- a child that has none, listed more than once
  standing_twice : (i t : ℕ) → i < n → 1 < t → standing n n i t ≡ 65535
  unfolding standing
  standing_twice i zero l h = absurd (omega arith)
  standing_twice i (suc t) l h = rw (first i) (standing_other i i t (λ e. omega arith) (omega arith))

  -- a child that is not listed
  standing_zero : (v i t : ℕ) → t ≡ 0 → standing n v i t ≡ v
  unfolding standing
  standing_zero v i t e = rw e

  -- the first list, and the others
  all : (list : List ℕ) (lists : List (List ℕ)) → times x (joined (list ∷ lists)) ≡ times x list + times x (joined lists)
  unfolding joined
  all list lists = times_append x list (joined lists)

  -- where x stands in no list, its entry stays
  stands_none : (v i : ℕ) (lists : List (List ℕ)) → times x (joined lists) ≡ 0 → stands n x v i lists ≡ v
  unfolding stands
  stands_none v i [] e = refl
  stands_none v i (list ∷ lists) e =
      rw (standing_zero v i (times x list) (omega (arith, all list lists)))
      (stands_none v (suc i) lists (omega (arith, all list lists)))

  -- 65535 stays over all lists
  stands_stays : (i : ℕ) (lists : List (List ℕ)) → stands n x 65535 i lists ≡ 65535
  unfolding stands
  stands_stays i [] = refl
  stands_stays i (list ∷ lists) = rw (standing_stays i (times x list)) (stands_stays (suc i) lists)

  -- where x had a parent and stands in a list
  stands_other : (v i : ℕ) (lists : List (List ℕ)) → (v ≡ n → ⊥) → 0 < times x (joined lists) → stands n x v i lists ≡ 65535
  unfolding stands joined times
  stands_other v i [] ne h = absurd (omega arith)
  stands_other v i (list ∷ lists) ne h =
      by_test (ltb 0 (times x list))
      (λ t. rw (standing_other v i (times x list) ne (ltb-true 0 (times x list) t)) (stands_stays (suc i) lists))
      (λ f. rw (standing_zero v i (times x list) (omega (arith, ltb-false 0 (times x list) f)))
      (stands_other v (suc i) lists ne (omega (arith, ltb-false 0 (times x list) f, all list lists))))

  -- where x stands once, the entry is the node that lists it
  stands_once : (i : ℕ) (lists : List (List ℕ)) → times x (joined lists) ≡ 1
      → stands n x n i lists ≡ i + least (λ p. ltb 0 (times x (get_or lists p []))) (length lists)
  unfolding stands joined times
  stands_once i [] h = absurd (omega arith)
  stands_once i (list ∷ lists) h =
      by_test (ltb 0 (times x list))
      (λ t. let l = ltb-true 0 (times x list) t in
      rw (t, standing_once i (times x list) (omega (arith, all list lists)))
      (stands_none i (suc i) lists (omega (arith, all list lists)) ∙ sym (add-zero i)))
      (λ f. let z : times x list ≡ 0 = omega (arith, ltb-false 0 (times x list) f) in
      rw (f, standing_zero n i (times x list) z)
      (stands_once (suc i) lists (omega (arith, all list lists)) ∙ omega arith))

  -- where x stands more than once
  stands_twice : (i : ℕ) (lists : List (List ℕ)) → i + length lists ≤ n → 1 < times x (joined lists)
      → stands n x n i lists ≡ 65535
  unfolding stands joined times
  stands_twice i [] l h = absurd (omega arith)
  stands_twice i (list ∷ lists) l h =
      by_test (ltb 1 (times x list))
      (λ t. rw (standing_twice i (times x list) (omega arith) (ltb-true 1 (times x list) t)) (stands_stays (suc i) lists))
      (λ f. by_test (ltb 0 (times x list))
      (λ t. let o : times x list ≡ 1 = omega (arith, ltb-false 1 (times x list) f, ltb-true 0 (times x list) t) in
      rw (standing_once i (times x list) o)
      (stands_other i (suc i) lists (λ e. omega arith) (omega (arith, all list lists))))
      (λ g. let z : times x list ≡ 0 = omega (arith, ltb-false 0 (times x list) g) in
      rw (standing_zero n i (times x list) z) (stands_twice (suc i) lists (omega arith) (omega (arith, all list lists)))))

-- The list of parents after all children.
module _ (kids : List (List ℕ)) (small : length kids < 65535) where
  -- as many entries as nodes
  pub length_parents : length (children_parents kids) ≡ length kids
  unfolding children_parents
  length_parents = length-feed_all _ 0 kids ∙ length-replicate (length kids) (length kids)

  -- the entry of x from the first child on
  entry : (x : ℕ) → x < length kids → get_or (children_parents kids) x 0 ≡ stands (length kids) x (length kids) 0 kids
  unfolding children_parents
  entry x l =
      get_or-feed_all (replicate (length kids) (length kids)) 0 kids x (rw (length-replicate (length kids) (length kids)) l)
      ∙ rw (length-replicate (length kids) (length kids), get_or-replicate (length kids) x (length kids) 0 l)

  -- x is no child
  pub entry_none : (x : ℕ) → x < length kids → times x (joined kids) ≡ 0 → get_or (children_parents kids) x 0 ≡ length kids
  entry_none x l e = entry x l ∙ stands_none (length kids) x small (length kids) 0 kids e

  -- x is a child once
  pub entry_once : (x : ℕ) → x < length kids → times x (joined kids) ≡ 1 → get_or (children_parents kids) x 0 ≡ parent_of kids x
  entry_once x l e = entry x l ∙ stands_once (length kids) x small 0 kids e ∙ omega arith

  -- x is a child more than once
  pub entry_twice : (x : ℕ) → x < length kids → 1 < times x (joined kids) → get_or (children_parents kids) x 0 ≡ 65535
  entry_twice x l h = entry x l ∙ stands_twice (length kids) x small 0 kids (omega arith) h
