-- What is found of the roots: the smallest scene that breaks each of rules 44 to 46.
-- Assumes nothing.
use Prim.Native.Nat.{ℕ, suc, ◌+◌, ◌<◌, ◌≤◌, min}
use mathlib.Core.Path.{◌≡◌, refl, sym, ap, ◌∙◌}
use mathlib.Core.Bool.{Bool, false, ◌||◌}
use mathlib.Core.List.{List, [], ◌∷◌}
use native.Mathlib.Omega.{arith}
use borrow.Author.Tests.{lt-ltb, lt-leb, leb-false, eqb-true, eqb-false, eq-eqb, ne_eqb}
use lib.Dec.{ltb, leb, eqb}
use lib.ListN.{get_or, set, length, length-set, length-replicate, get_or-replicate}
use lib.Seq.{get_or-set_same, get_or-set_other}
use Rattle.laws.specs.Search.{least}
use Rattle.laws.proofs.Tests.{by_test, or_false}
use Rattle.laws.proofs.Search.{least_says}
use Rattle.graph.specs.Graph.{times, any_in, repeats}
use Rattle.graph.specs.Stream.{feed, earlier, up_in, root_of, Marked, root_step, unmarked, roots_found}
use Rattle.graph.proofs.Booleans.{or_swap, or_sort}
use Rattle.graph.proofs.Feeding.{earlier_false, earlier_or, feed_test, feed_keep, feed_all_test}

-- every entry of the list is below n
abbrev pub Below : ℕ → List ℕ → Type 0
Below n list = any_in (leb n) list ≡ false

-- whether an entry of the list has the mark i
abbrev marked : List ℕ → ℕ → List ℕ → Bool
marked marks i list = any_in (λ y. eqb (get_or marks y 0) i) list

-- with a mark at x more, the entries x are marked too
marked_more : (marks : List ℕ) (i x : ℕ) → x < length marks → (list : List ℕ)
    → marked (set marks x i) i list ≡ ltb 0 (times x list) || marked marks i list
unfolding any_in times
marked_more marks i x l [] = refl
marked_more marks i x l (y ∷ list) =
    by_test (eqb y x)
    (λ t. let e = eqb-true y x t in
    rw (t, e, get_or-set_same marks x i 0 l, eq-eqb i i refl, lt-ltb 0 (suc (times x list)) (omega arith)))
    (λ f. rw (f, get_or-set_other marks x y i 0 (eqb-false y x f), marked_more marks i x l list)
    (or_swap (eqb (get_or marks y 0) i) (ltb 0 (times x list)) (marked marks i list)))

module _ (parents : List ℕ) (roots : List (List ℕ)) where
  -- the number of nodes
  abbrev n : ℕ
  n = length parents

  -- the number of scenes
  abbrev s : ℕ
  s = length roots

  -- before the first root
  abbrev start : Marked
  start = unmarked n s

  -- what a pass keeps: as many marks as nodes
  abbrev Wide : Marked → Type 0
  Wide m = length m.marks ≡ n

  -- a step keeps the number of marks
  wide_step : (m : Marked) (i x : ℕ) → Wide m → Wide (root_step parents m i x)
  wide_step m i x w = simp length-set w

  -- as many marks as nodes at the start
  start_wide : Wide start
  start_wide = length-replicate n s

  -- the smallest scene is at most the number of scenes
  smaller : (test : List ℕ → Bool)
      → min s (0 + least (λ k. test (get_or roots k [])) s) ≡ least (λ k. test (get_or roots k [])) s
  smaller test = omega (arith, (least_says (λ k. test (get_or roots k [])) s).le)

  -- rule 44
  pub found_past : (roots_found parents roots).past ≡ least (λ k. any_in (leb n) (get_or roots k [])) s
  unfolding roots_found
  found_past =
      feed_all_test (root_step parents) (λ m. m.found.past) (any_in (leb n)) (λ i m. Wide m) (λ list. Unit {0}) s
      (λ m i list l q w. feed_test (root_step parents) (λ m. m.found.past) (leb n) Wide one wide_step m i list w)
      (λ m i list q w. feed_keep (root_step parents) Wide i (λ m x. wide_step m i x) m list w)
      start 0 roots (omega arith) (omega arith) (λ k l. tt) start_wide
      ∙ smaller (any_in (leb n))
    where
      one : (m : Marked) (i x : ℕ) → Wide m → (root_step parents m i x).found.past ≡ earlier (leb n x) i m.found.past
      one m i x w = unfold root_of in rw w refl

  -- rule 46
  abbrev parented : ℕ → Bool
  parented x = ltb (up_in parents x) n

  -- the smallest scene with a root that has a parent
  pub found_parented : (roots_found parents roots).parented ≡ least (λ k. any_in parented (get_or roots k [])) s
  unfolding roots_found
  found_parented =
      feed_all_test (root_step parents) (λ m. m.found.parented) (any_in parented) (λ i m. Unit {0}) (λ list. Unit {0}) s
      (λ m i list l q w.
      feed_test (root_step parents) (λ m. m.found.parented) parented (λ m. Unit {0}) one (λ m i x w. tt) m i list tt)
      (λ m i list q w. tt)
      start 0 roots (omega arith) (omega arith) (λ k l. tt) tt
      ∙ smaller (any_in parented)
    where
      one : (m : Marked) (i x : ℕ) → Unit {0}
          → (root_step parents m i x).found.parented ≡ earlier (parented x) i m.found.parented
      one m i x w = unfold root_of in refl

  -- the scene repeats a root: one that it marked before, or one that stands again further on
  twice_list : (m : Marked) (i : ℕ) (list : List ℕ) → Wide m → Below n list
      → (feed (root_step parents) m i list).found.twice
      ≡ earlier (marked m.marks i list || repeats list) i m.found.twice
  unfolding feed any_in repeats root_of
  twice_list m i [] w b = sym (earlier_false i m.found.twice)
  twice_list m i (x ∷ list) w b =
      let h = or_false (leb n x) (any_in (leb n) list) b in
      let l : x < length m.marks = omega (arith, leb-false n x h.0) in
      twice_list (root_step parents m i x) i list (wide_step m i x w) h.1
      ∙ rw (lt-leb (length m.marks) x l, marked_more m.marks i x l list)
      (earlier_or (eqb (get_or m.marks x 0) i)
      (ltb 0 (times x list) || marked m.marks i list || repeats list) i m.found.twice
      ∙ ap (λ (t : Bool). earlier t i m.found.twice)
      (or_sort (eqb (get_or m.marks x 0) i) (ltb 0 (times x list)) (marked m.marks i list) (repeats list)))

  -- before scene i a mark is that of a scene before it, or none
  record Fresh (i : ℕ) (m : Marked) : Type 0 where
    pub wide : Wide m
    pub late : (x : ℕ) → x < n → i ≤ get_or m.marks x 0 → s ≤ get_or m.marks x 0

  -- so no root of scene i is marked with i before its first
  fresh_none : (m : Marked) (i : ℕ) → i < s → Fresh i m → (list : List ℕ) → Below n list → marked m.marks i list ≡ false
  unfolding any_in
  fresh_none m i l f [] b = refl
  fresh_none m i l f (x ∷ list) b =
      let h = or_false (leb n x) (any_in (leb n) list) b in
      let e : eqb (get_or m.marks x 0) i ≡ false =
      ne_eqb (get_or m.marks x 0) i (λ e. omega (arith, e, f.late x (leb-false n x h.0) (omega (arith, e)))) in
      rw e (fresh_none m i l f list h.1)

  -- a root of scene i leaves marks up to i
  fresh_step : (i : ℕ) (m : Marked) (x : ℕ) → Fresh (suc i) m → Fresh (suc i) (root_step parents m i x)
  fresh_step i m x f =
      record {
        wide = wide_step m i x f.wide;
        late = λ y l. by_test (eqb x y)
            (λ t. let same = get_or-set_same m.marks y i 0 (omega (arith, f.wide)) in
            let e : get_or (set m.marks x i) y 0 ≡ i = rw (eqb-true x y t) same in
            rw e (λ h. absurd (omega arith)))
            (λ t. rw (get_or-set_other m.marks x y i 0 (λ e. eqb-false x y t (sym e))) (f.late y l));
      }

  -- rule 45, where rule 44 holds
  pub found_twice : ((k : ℕ) → k < s → Below n (get_or roots k []))
      → (roots_found parents roots).twice ≡ least (λ k. repeats (get_or roots k [])) s
  unfolding roots_found
  found_twice below =
      feed_all_test (root_step parents) (λ m. m.found.twice) repeats Fresh (Below n) s
      (λ m i list l b f. twice_list m i list f.wide b ∙ rw (fresh_none m i l f list b) refl)
      (λ m i list b f. feed_keep (root_step parents) (Fresh (suc i)) i (fresh_step i) m list
      (record { wide = f.wide; late = λ x l h. f.late x l (omega arith) }))
      start 0 roots (omega arith) (omega arith) below
      (record { wide = start_wide; late = λ x l h. rw (get_or-replicate n x s 0 l) (omega arith) })
      ∙ smaller repeats
