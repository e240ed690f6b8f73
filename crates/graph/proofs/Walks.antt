-- The walk of a scene lists exactly the nodes that are a root or under one, each once, and at most as many as there are.
-- Assumes nothing.
use Prim.Native.Nat.{ℕ, zero, suc, ◌+◌, ◌<◌, ◌≤◌}
use mathlib.Core.Path.{◌≡◌, refl, sym, ◌∙◌, subst}
use mathlib.Core.Bool.{false, true≢false}
use mathlib.Core.List.{List, [], ◌∷◌}
use mathlib.Core.Logic.{◌⊎◌, inl, inr}
use native.Mathlib.Nat.{not-suc-le-zero}
use native.Mathlib.Omega.{arith}
use borrow.Author.Tests.{ltb-true, ltb-false, lt-ltb, le-leb, eqb-true, eq-eqb}
use lib.Dec.{ltb, leb, eqb}
use lib.ListN.{get_or, length, get_or-eq_default}
use Rattle.laws.proofs.Tests.{by_test}
use Rattle.laws.proofs.Pigeonhole.{pigeonhole}
use Rattle.graph.specs.Graph.{times, parent_of, endless, graph_fault}
use Rattle.graph.specs.Rules.{In, Child, Reaches}
use Rattle.graph.specs.Rules.In.{at}
use Rattle.graph.specs.Rules.Reaches.{top, up}
use Rattle.graph.specs.Order.{in_turn, preorder, scene_order, Under, Shown, Walk}
use Rattle.graph.specs.Order.Under.{child, deeper}
use Rattle.graph.specs.Order.Shown.{root, below}
use Rattle.graph.proofs.Counting.{times_append, times_in, in_times, times_again, again_times, times_joined}
use Rattle.graph.proofs.Counting.{once_no_repeat, in_more, any_in_lem, repeats_again}
use Rattle.graph.proofs.Reach.{Linked, parent_is, parent_none, ends_reaches}
use Rattle.graph.proofs.Tests.{linked}
use Rattle.graph.proofs.Capacity.{sound_holds}
use Rattle.graph.proofs.Levels.{order_is}

-- one entry more in front
times_cons : (x y : ℕ) (list : List ℕ) → times x (y ∷ list) ≡ times x (y ∷ []) + times x list
times_cons x y list = times_append x (y ∷ []) list

-- what is listed for one entry is listed in turn, ..
turn_some : (f : ℕ → List ℕ) (x c : ℕ) (list : List ℕ) → In c list → 0 < times x (f c) → 0 < times x (in_turn f list)
unfolding in_turn
turn_some f x c [] (at j l e) h = absurd (not-suc-le-zero l)
turn_some f x c (y ∷ list) (at zero l e) h =
    rw (times_append x (f y) (in_turn f list)) (omega (arith, rw (sym e) at h))
turn_some f x c (y ∷ list) (at (suc j) l e) h =
    rw (times_append x (f y) (in_turn f list)) (omega (arith, turn_some f x c list (at j (omega arith) e) h))

-- .. and what is listed in turn is listed for one
turn_where : (f : ℕ → List ℕ) (x : ℕ) (list : List ℕ) → 0 < times x (in_turn f list)
    → (c : ℕ) × In c list × (0 < times x (f c))
unfolding in_turn times
turn_where f x [] h = absurd (not-suc-le-zero h)
turn_where f x (y ∷ list) h =
    by_test (ltb 0 (times x (f y)))
    (λ t. (y, at 0 (omega arith) refl, ltb-true 0 (times x (f y)) t))
    (λ g. let more = rw (times_append x (f y) (in_turn f list)) at h in
    let w = turn_where f x list (omega (arith, more, ltb-false 0 (times x (f y)) g)) in
    (w.0, in_more y w.1, w.2))

module _ (kids : List (List ℕ)) where
  -- past the nodes there are no children
  is_child : (p x : ℕ) → In x (get_or kids p []) → Child kids p x
  is_child p x i =
      by_test (ltb p (length kids)) (λ t. (ltb-true p (length kids) t, i))
      (λ f. absurd (none (subst (λ (l : List ℕ). In x l) (get_or-eq_default kids [] (ltb-false p (length kids) f)) i)))
    where
      none : In x [] → ⊥
      none (at j l e) = not-suc-le-zero l

  -- what a walk lists is the node itself or under it
  listed : (levels r x : ℕ) → 0 < times x (preorder kids levels r) → (r ≡ x) ⊎ Under kids r x
  unfolding preorder times
  listed zero r x h = absurd (not-suc-le-zero h)
  listed (suc k) r x h =
      by_test (eqb r x) (λ t. inl (eqb-true r x t))
      (λ f. let w = turn_where (preorder kids k) x (get_or kids r []) (rw f at h) in
      inr (step (is_child r w.0 w.1) (listed k w.0 x w.2)))
    where
      step : {c : ℕ} → Child kids r c → (c ≡ x) ⊎ Under kids c x → Under kids r x
      step {c} d (inl e) = child (subst (λ (y : ℕ). Child kids r y) e d)
      step {c} d (inr u) = deeper c d u

  -- a walk lists y at most as often as the list it starts from and y's parent p together
  module _ (y p : ℕ) (only : (r : ℕ) → times y (get_or kids r []) ≤ times p (r ∷ [])) where
    empty : (x : ℕ) (list : List ℕ) → times x (in_turn (preorder kids 0) list) ≡ 0
    unfolding in_turn preorder times
    empty x [] = refl
    empty x (r ∷ list) = empty x list

    once_list : (k : ℕ)
        → ((list : List ℕ)
        → times y (in_turn (preorder kids k) list) ≤ times y list + times p (in_turn (preorder kids k) list))
        → (list : List ℕ)
        → times y (in_turn (preorder kids (suc k)) list) ≤ times y list + times p (in_turn (preorder kids (suc k)) list)
    unfolding in_turn preorder
    once_list k ih [] = omega arith
    once_list k ih (r ∷ list) =
        let here = in_turn (preorder kids k) (get_or kids r []) in
        let rest = in_turn (preorder kids (suc k)) list in
        omega (
          arith,
          times_append y (r ∷ here) rest,
          times_append p (r ∷ here) rest,
          times_cons y r here,
          times_cons p r here,
          times_cons y r list,
          ih (get_or kids r []),
          only r,
          once_list k ih list,
        )

    once_le : (levels : ℕ) (list : List ℕ)
        → times y (in_turn (preorder kids levels) list) ≤ times y list + times p (in_turn (preorder kids levels) list)
    once_le zero list = omega (arith, empty y list)
    once_le (suc k) list = once_list k (once_le k) list

-- A graph that breaks no rule, one of its scenes, and levels enough.
module _ (kids roots : List (List ℕ)) (sound : (graph_fault kids roots).number ≡ 0) (levels scene : ℕ)
    (deep : length kids ≤ levels) (there : scene < length roots) where
  -- the scene's roots
  abbrev list : List ℕ
  list = get_or roots scene []

  -- the order of the walk
  abbrev order : List ℕ
  order = scene_order kids levels list

  -- rules 41 and 42
  ok : Linked kids
  ok = linked kids roots (sound_holds kids roots sound 0 (omega arith)) (sound_holds kids roots sound 1 (omega arith))

  -- rule 43
  ends : (x : ℕ) → x < length kids → endless kids x ≡ false
  ends = sound_holds kids roots sound 2 (omega arith)

  -- the words of the walk
  told : (x : ℕ) → x < length kids → preorder kids levels x ≡ x ∷ in_turn (preorder kids levels) (get_or kids x [])
  told x l = order_is kids ok ends levels x deep l

  -- rules 44 to 46 on this scene
  root_low : (x : ℕ) → In x list → x < length kids
  root_low x i =
      by_test (ltb x (length kids)) (λ t. ltb-true x (length kids) t)
      (λ f. let t = any_in_lem (leb (length kids)) x list i (le-leb (length kids) x (ltb-false x (length kids) f)) in
      absurd (true≢false (sym t ∙ sound_holds kids roots sound 3 (omega arith) scene there)))

  -- a root is listed once
  root_once : (x : ℕ) → times x list ≤ 1
  root_once x =
      by_test (ltb 1 (times x list))
      (λ t. let a = repeats_again x list (again_times x list (ltb-true 1 (times x list) t)) in
      absurd (true≢false (sym a ∙ sound_holds kids roots sound 4 (omega arith) scene there)))
      (λ f. ltb-false 1 (times x list) f)

  -- what has a parent is no root
  root_top : (x p : ℕ) → Child kids p x → times x list ≡ 0
  root_top x p c =
      by_test (ltb 0 (times x list))
      (λ t. let i = in_times x list (ltb-true 0 (times x list) t) in
      let l : parent_of kids x < length kids = omega (arith, parent_is kids ok x p c, c.0) in
      let a = any_in_lem (λ y. ltb (parent_of kids y) (length kids)) x list i (lt-ltb (parent_of kids x) (length kids) l) in
      absurd (true≢false (sym a ∙ sound_holds kids roots sound 5 (omega arith) scene there)))
      (λ f. omega (arith, ltb-false 0 (times x list) f))

  -- what is under a node is a node
  under_low : {p x : ℕ} → Under kids p x → x < length kids
  under_low {p} {x} (child c) = ok.nodes p x c
  under_low (deeper c d u) = under_low u

  -- what is listed is shown, ..
  is_shown : (x : ℕ) → 0 < times x order → Shown kids list x
  is_shown x h =
      let w = turn_where (preorder kids levels) x list h in
      go w.1 (listed kids levels w.0 x w.2)
    where
      go : {r : ℕ} → In r list → (r ≡ x) ⊎ Under kids r x → Shown kids list x
      go i (inl e) = root (subst (λ (y : ℕ). In y list) e i)
      go {r} i (inr u) = below r i u

  -- what is listed is a node
  order_low : (x : ℕ) → 0 < times x order → x < length kids
  order_low x h = go (is_shown x h)
    where
      go : Shown kids list x → x < length kids
      go (root i) = root_low x i
      go (below r i u) = under_low u

  -- .. and what is shown is listed
  self : (x : ℕ) → x < length kids → 0 < times x (preorder kids levels x)
  unfolding times
  self x l = rw (told x l, eq-eqb x x refl) (omega arith)

  -- what is under a node is listed with it
  under_listed : {r x : ℕ} → r < length kids → Under kids r x → 0 < times x (preorder kids levels r)
  under_listed {r} {x} l (child c) =
      let h = turn_some (preorder kids levels) x x (get_or kids r []) c.1 (self x (ok.nodes r x c)) in
      rw (told r l) (omega (arith, times_cons x r (in_turn (preorder kids levels) (get_or kids r []))))
  under_listed {r} {x} l (deeper c d u) =
      let h = turn_some (preorder kids levels) x c (get_or kids r []) d.1 (under_listed (ok.nodes r c d) u) in
      rw (told r l) (omega (arith, times_cons x r (in_turn (preorder kids levels) (get_or kids r []))))

  -- what is a root or under one is listed
  is_listed : (x : ℕ) → Shown kids list x → 0 < times x order
  is_listed x (root i) = turn_some (preorder kids levels) x x list i (self x (root_low x i))
  is_listed x (below r i u) = turn_some (preorder kids levels) x r list i (under_listed (root_low r i) u)

  -- a node's only parent lists it once
  only : (y r : ℕ) → times y (get_or kids r []) ≤ times (parent_of kids y) (r ∷ [])
  unfolding times
  only y r =
      by_test (ltb 0 (times y (get_or kids r [])))
      (λ t. let c = is_child kids r y (in_times y (get_or kids r []) (ltb-true 0 (times y (get_or kids r [])) t)) in
      rw (eq-eqb r (parent_of kids y) (sym (parent_is kids ok y r c))) (omega (arith, times_joined y r kids, ok.once y)))
      (λ f. omega (arith, ltb-false 0 (times y (get_or kids r [])) f))

  -- the number of nodes is not listed
  nowhere : times (length kids) order ≡ 0
  nowhere =
      by_test (ltb 0 (times (length kids) order))
      (λ t. absurd (omega (arith, order_low (length kids) (ltb-true 0 (times (length kids) order) t))))
      (λ f. omega (arith, ltb-false 0 (times (length kids) order) f))

  -- each once, going up from the node to one without a parent
  reach_once : {y : ℕ} → Reaches kids y → times y order ≤ 1
  reach_once {y} (top h) =
      let le = rw (parent_none kids y h) at (once_le kids y (parent_of kids y) (only y) levels list) in
      omega (arith, le, nowhere, root_once y)
  reach_once {y} (up p c r) =
      let le = rw (parent_is kids ok y p c) at (once_le kids y (parent_of kids y) (only y) levels list) in
      omega (arith, le, root_top y p c, reach_once r)

  -- so every number is listed at most once
  order_once : (x : ℕ) → times x order ≤ 1
  order_once x =
      by_test (ltb 0 (times x order))
      (λ t. let l = order_low x (ltb-true 0 (times x order) t) in reach_once (ends_reaches kids ok x l (ends x l)))
      (λ f. omega (arith, ltb-false 0 (times x order) f))

  -- all together
  pub walk_is : Walk kids list order
  walk_is =
      record {
        listed = λ x i. is_shown x (times_in x order i);
        shown = λ x s. in_times x order (is_listed x s);
        once = λ x a. omega (arith, times_again x order a, order_once x);
        few = pigeonhole (length kids) order
            (λ i l. order_low (get_or order i 0) (times_in (get_or order i 0) order (at i l refl)))
            (once_no_repeat order order_once);
      }
