-- Laws of the order and of writing into a list.
-- Assumes nothing.
use Prim.Native.Nat.{ℕ, zero, suc, ◌+◌, ◌-◌, ◌<◌, ◌≤◌}
use mathlib.Core.Path.{◌≡◌, refl, sym, ap, ◌∙◌}
use mathlib.Core.List.{List, [], ◌∷◌, ◌++◌, append_assoc, append-nil}
use mathlib.Core.Logic.{⊎_elim}
use native.Mathlib.Nat.{add-zero, zero-add, add_assoc, eq-or-lt_of_le, le_of_suc-le-suc}
use native.Mathlib.Numerals.{add-one}
use native.Mathlib.Omega.{arith}
use lib.ListN.{get_or, set, length, take, drop, length-append, length-take, length-drop, take-append-drop}
use lib.Seq.{set_split, take_at, drop_at, drop-drop, take-suc, take-length, get_or-drop}
use Rattle.graph.specs.Order.{in_turn, preorder, scene_order}
use Rattle.scene.specs.Steps.{written}

-- nothing written
pub written_nil : (d : List ℕ) (at : ℕ) → written d at [] ≡ d
unfolding written
written_nil d at = rw add-zero (take-append-drop at d)

-- written at the front
pub written_front : (d xs : List ℕ) → written d 0 xs ≡ xs ++ drop (length xs) d
unfolding written
written_front d xs = rw zero-add

-- one list written behind another
pub written_more : (d : List ℕ) (at : ℕ) (xs ys : List ℕ) → at + length xs + length ys ≤ length d
    → written (written d at xs) (at + length xs) ys ≡ written d at (xs ++ ys)
unfolding written
written_more d at xs ys h =
    let a : length (take at d ++ xs) ≡ at + length xs = simp (length-append, length-take) (omega arith) in
    let front : take (at + length xs) (take at d ++ (xs ++ drop (at + length xs) d)) ≡ take at d ++ xs =
    ap (take (at + length xs)) (sym (append_assoc (take at d) xs _)) ∙ take_at (take at d ++ xs) _ _ a in
    let back : drop (at + length xs + length ys) (take at d ++ (xs ++ drop (at + length xs) d))
    ≡ drop (at + length xs + length ys) d =
    sym (drop-drop (length ys) (at + length xs) _)
    ∙ ap (drop (length ys))
    (ap (drop (at + length xs)) (sym (append_assoc (take at d) xs _)) ∙ drop_at (take at d ++ xs) _ _ a)
    ∙ drop-drop (length ys) (at + length xs) d in
    rw (front, back) (simp (append_assoc, length-append, add_assoc))

set_one : (d : List ℕ) (at x : ℕ) → at < length d → set d at x ≡ written d at (x ∷ [])
unfolding written
set_one d at x l = rw add-one (set_split d at x l)

-- a store, and then what is written after it
set_then : (d : List ℕ) (at x : ℕ) (xs : List ℕ) → at + 1 + length xs ≤ length d
    → written (set d at x) (at + 1) xs ≡ written d at (x ∷ xs)
set_then d at x xs h = rw (set_one d at x (omega arith)) (written_more d at (x ∷ []) xs (omega arith))

-- what f gives for the first i of the entries from s on, one after the other
unfoldable pub so_far : (ℕ → List ℕ) → List ℕ → ℕ → ℕ → List ℕ
so_far f entries s zero = []
so_far f entries s (suc i) = so_far f entries s i ++ f (get_or entries (s + i) 0)

turn_append : (f : ℕ → List ℕ) (xs ys : List ℕ) → in_turn f (xs ++ ys) ≡ in_turn f xs ++ in_turn f ys
unfolding in_turn
turn_append f [] ys = refl
turn_append f (x ∷ xs) ys = rw (turn_append f xs ys) (sym (append_assoc (f x) (in_turn f xs) (in_turn f ys)))

turn_one : (f : ℕ → List ℕ) (x : ℕ) → in_turn f (x ∷ []) ≡ f x
unfolding in_turn
turn_one f x = append-nil (f x)

-- no entries, nothing
pub none_yet : (f : ℕ → List ℕ) (entries : List ℕ) (s : ℕ) → so_far f entries s 0 ≡ []
unfolding so_far
none_yet f entries s = refl

-- all of n entries in turn
pub all_so_far : (f : ℕ → List ℕ) (entries : List ℕ) (s n : ℕ) → s + n ≤ length entries
    → so_far f entries s n ≡ in_turn f (take n (drop s entries))
unfolding so_far in_turn
all_so_far f entries s zero h = refl
all_so_far f entries s (suc n) h =
    let l : n < length (drop s entries) = omega (arith, length-drop s entries) in
    rw (
      take-suc (drop s entries) n 0 l,
      turn_append f (take n (drop s entries)) (get_or (drop s entries) n 0 ∷ []),
      turn_one f (get_or (drop s entries) n 0),
      get_or-drop s entries n 0,
      all_so_far f entries s n (omega arith),
    )

-- a whole list in turn
pub whole_so_far : (f : ℕ → List ℕ) (entries : List ℕ) → so_far f entries 0 (length entries) ≡ in_turn f entries
whole_so_far f entries =
    all_so_far f entries 0 (length entries) (omega arith) ∙ rw (take-length entries) refl

-- the nodes of a list in turn, once all are passed
pub all_found : (kids : List (List ℕ)) (left : ℕ) (nodes : List ℕ) (i : ℕ) → i ≡ length nodes
    → so_far (preorder kids left) nodes 0 i ≡ scene_order kids left nodes
all_found kids left nodes i e = rw e (whole_so_far (preorder kids left) nodes)

-- the first i entries fit where all do
pub so_far_le : (f : ℕ → List ℕ) (ch : List ℕ) (s i j : ℕ) → i ≤ j → length (so_far f ch s i) ≤ length (so_far f ch s j)
unfolding so_far
so_far_le f ch s i zero h = let e : i ≡ 0 = omega arith in rw e (omega arith)
so_far_le f ch s i (suc j) h =
    ⊎_elim (λ e. rw e (omega arith))
    (λ l. omega (
      arith,
      so_far_le f ch s i j (le_of_suc-le-suc l),
      length-append (so_far f ch s j) (f (get_or ch (s + j) 0)),
    ))
    (eq-or-lt_of_le h)

so_far_more : (f : ℕ → List ℕ) (ch : List ℕ) (s i : ℕ)
    → so_far f ch s (i + 1) ≡ so_far f ch s i ++ f (get_or ch (s + i) 0)
unfolding so_far
so_far_more f ch s i = rw add-one

-- one entry more
pub next_length : (f : ℕ → List ℕ) (ch : List ℕ) (s i : ℕ)
    → length (so_far f ch s (i + 1)) ≡ length (so_far f ch s i) + length (f (get_or ch (s + i) 0))
next_length f ch s i = ap length (so_far_more f ch s i) ∙ length-append (so_far f ch s i) (f (get_or ch (s + i) 0))

-- one entry more, written after those before it
pub next_written : (f : ℕ → List ℕ) (ch d list : List ℕ) (s at i p : ℕ) → at + length (so_far f ch s (i + 1)) ≤ length d
    → p ≡ at + length (so_far f ch s i) → list ≡ written d at (so_far f ch s i)
    → written list p (f (get_or ch (s + i) 0)) ≡ written d at (so_far f ch s (i + 1))
next_written f ch d list s at i p h ep el =
    rw (el, ep, so_far_more f ch s i)
    (written_more d at (so_far f ch s i) (f (get_or ch (s + i) 0)) (omega (arith, next_length f ch s i)))

-- the same from the start of a list
pub root_length : (f : ℕ → List ℕ) (roots : List ℕ) (i : ℕ)
    → length (so_far f roots 0 (i + 1)) ≡ length (so_far f roots 0 i) + length (f (get_or roots i 0))
root_length f roots i =
    next_length f roots 0 i ∙ ap (λ (k : ℕ). length (so_far f roots 0 i) + length (f (get_or roots k 0))) (zero-add i)

pub from_written : (f : ℕ → List ℕ) (nodes d list : List ℕ) (at i p : ℕ)
    → at + length (so_far f nodes 0 (i + 1)) ≤ length d → p ≡ at + length (so_far f nodes 0 i)
    → list ≡ written d at (so_far f nodes 0 i)
    → written list p (f (get_or nodes i 0)) ≡ written d at (so_far f nodes 0 (i + 1))
from_written f nodes d list at i p h ep el =
    ap (λ (k : ℕ). written list p (f (get_or nodes k 0))) (sym (zero-add i))
    ∙ next_written f nodes d list 0 at i p h ep el

-- no levels, no nodes
none_in : (kids : List (List ℕ)) (nodes : List ℕ) → scene_order kids 0 nodes ≡ []
unfolding in_turn preorder
none_in kids [] = refl
none_in kids (x ∷ nodes) = none_in kids nodes

pub no_levels : (kids : List (List ℕ)) (left : ℕ) (nodes : List ℕ) → left ≡ 0 → scene_order kids left nodes ≡ []
no_levels kids left nodes e = rw e (none_in kids nodes)

-- a node, then what is under its children
unrolled : (kids : List (List ℕ)) (node k : ℕ) → 0 < k
    → preorder kids k node ≡ node ∷ scene_order kids (k - 1) (get_or kids node [])
unfolding preorder
unrolled kids node zero h = absurd (omega arith)
unrolled kids node (suc k) h = let e : suc k - 1 ≡ k = omega arith in rw e

-- A pass over a list of nodes, some levels deep.
module _ (kids : List (List ℕ)) (left : ℕ) (deep : 0 < left) (nodes : List ℕ) where
  -- what the first i nodes give
  abbrev pub found : ℕ → List ℕ
  found i = so_far (preorder kids left) nodes 0 i

  -- what is under node i of the list
  abbrev pub under : ℕ → List ℕ
  under i = scene_order kids (left - 1) (get_or kids (get_or nodes i 0) [])

  one : (i : ℕ) → preorder kids left (get_or nodes i 0) ≡ get_or nodes i 0 ∷ under i
  one i = unrolled kids (get_or nodes i 0) left deep

  -- one node more, and what is under it
  pub one_more : (i : ℕ) → length (found (i + 1)) ≡ length (found i) + 1 + length (under i)
  one_more i =
      let e : length (preorder kids left (get_or nodes i 0)) ≡ 1 + length (under i) =
      ap length (one i) ∙ omega arith in
      omega (arith, root_length (preorder kids left) nodes i, e)

  -- the first i nodes give no more than all
  pub no_more : (i : ℕ) → i ≤ length nodes → length (found i) ≤ length (scene_order kids left nodes)
  no_more i h =
      omega (
        arith,
        so_far_le (preorder kids left) nodes 0 i (length nodes) h,
        ap length (whole_so_far (preorder kids left) nodes),
      )

  -- one node more stored, and what is under it written
  pub one_written : (d list : List ℕ) (at i p : ℕ) → at + length (found (i + 1)) ≤ length d
      → p ≡ at + length (found i) → list ≡ written d at (found i) → length list ≡ length d
      → written (set list p (get_or nodes i 0)) (p + 1) (under i) ≡ written d at (found (i + 1))
  one_written d list at i p h ep el en =
      set_then list p (get_or nodes i 0) (under i) (omega (arith, h, ep, en, one_more i))
      ∙ ap (written list p) (sym (one i))
      ∙ from_written (preorder kids left) nodes d list at i p h ep el
