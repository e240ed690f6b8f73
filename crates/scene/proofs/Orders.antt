-- The order of a walk: 128 levels cut nothing off, and there is one order alone.
-- Assumes nothing.
use Prim.Native.Nat.{ℕ, zero, suc, ◌+◌, ◌<◌, ◌≤◌}
use mathlib.Core.Path.{◌≡◌, refl}
use mathlib.Core.Bool.{false}
use mathlib.Core.List.{List, [], ◌∷◌}
use native.Mathlib.Omega.{arith}
use borrow.Author.Tests.{ltb-false}
use lib.ListN.{get_or, length}
use Rattle.graph.specs.Graph.{parent_of, endless}
use Rattle.graph.specs.Rules.{In, Child}
use Rattle.graph.specs.Rules.In.{at}
use Rattle.graph.specs.Order.{in_turn, preorder}
use Rattle.graph.proofs.Counting.{in_more}
use Rattle.graph.proofs.Reach.{Linked, parent_is}
use Rattle.graph.proofs.Rank.{rank, rank_low, rank_pos, rank_more}
use Rattle.scene.specs.Meaning.{InOrder}
use Rattle.scene.specs.Meaning.InOrder.{none, next}

-- Rules 41 to 43 hold.
module _ (kids : List (List ℕ)) (ok : Linked kids) (ends : (x : ℕ) → x < length kids → endless kids x ≡ false) where
  abbrev height : ℕ → ℕ
  height = rank (parent_of kids) (length kids)

  -- a child is one step further down
  higher : (p x : ℕ) → Child kids p x → height x ≡ height p + 1
  unfolding endless
  higher p x c =
      let l = ok.nodes p x c in
      rank_more (parent_of kids) (length kids) x p l (parent_is kids ok x p c) (ltb-false _ _ (ends x l))

  -- nodes from which so many levels are enough
  abbrev Deep : ℕ → List ℕ → Type 0
  Deep levels list = (x : ℕ) → In x list → (x < length kids) × (length kids < levels + height x)

  row : (k : ℕ) → ((list : List ℕ) → Deep k list → InOrder kids list (in_turn (preorder kids k) list))
      → (list : List ℕ) → Deep (suc k) list → InOrder kids list (in_turn (preorder kids (suc k)) list)
  unfolding in_turn preorder
  row k down [] h = none
  row k down (x ∷ list) h =
      let here = h x (at 0 (omega arith) refl) in
      let deep : Deep k (get_or kids x []) = λ y i.
      (ok.nodes x y (here.0, i), omega (arith, here.1, higher x y (here.0, i))) in
      next (down (get_or kids x []) deep) (row k down list (λ y i. h y (in_more x i)))

  enough : (levels : ℕ) (list : List ℕ) → Deep levels list → InOrder kids list (in_turn (preorder kids levels) list)
  unfolding in_turn
  enough zero [] h = none
  enough zero (x ∷ list) h =
      absurd (omega (arith, (h x (at 0 (omega arith) refl)).1, rank_low (parent_of kids) (length kids) x))
  enough (suc k) list h = row k (enough k) list h

  -- as many levels as nodes are enough for any nodes
  pub in_order : (levels : ℕ) (list : List ℕ) → length kids ≤ levels → ((x : ℕ) → In x list → x < length kids)
      → InOrder kids list (in_turn (preorder kids levels) list)
  in_order levels list h low =
      enough levels list
      (λ x i. (low x i, omega (arith, rank_pos (parent_of kids) (length kids) x (low x i))))

-- two orders of the same list are one
pub order_one : (kids : List (List ℕ)) {list a b : List ℕ} → InOrder kids list a → InOrder kids list b → a ≡ b
order_one kids none none = refl
order_one kids (next p q) (next o w) = rw (order_one kids p o, order_one kids q w) refl
