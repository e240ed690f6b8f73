-- Where rules 41 to 43 hold, as many levels as there are nodes are enough, and the walk is what the words say.
-- Assumes nothing.
use Prim.Native.Nat.{ℕ, zero, suc, ◌+◌, ◌<◌, ◌≤◌}
use mathlib.Core.Path.{◌≡◌, refl, ap}
use mathlib.Core.Bool.{false}
use mathlib.Core.List.{List, [], ◌∷◌}
use native.Mathlib.Omega.{arith}
use borrow.Author.Tests.{ltb-false}
use lib.ListN.{get_or, length}
use Rattle.graph.specs.Graph.{parent_of, endless}
use Rattle.graph.specs.Rules.{In, Child}
use Rattle.graph.specs.Rules.In.{at}
use Rattle.graph.specs.Order.{in_turn, preorder}
use Rattle.graph.proofs.Counting.{in_more}
use Rattle.graph.proofs.Reach.{Linked, parent_is}
use Rattle.graph.proofs.Rank.{rank, rank_low, rank_pos, rank_more}

-- two functions that agree on the entries of a list
turn_same : (f g : ℕ → List ℕ) (list : List ℕ) → ((x : ℕ) → In x list → f x ≡ g x) → in_turn f list ≡ in_turn g list
unfolding in_turn
turn_same f g [] h = refl
turn_same f g (x ∷ list) h = rw (h x (at 0 (omega arith) refl), turn_same f g list (λ y i. h y (in_more x i)))

module _ (kids : List (List ℕ)) (ok : Linked kids) (ends : (x : ℕ) → x < length kids → endless kids x ≡ false) where
  -- the number of steps up to the top
  abbrev height : ℕ → ℕ
  height = rank (parent_of kids) (length kids)

  -- a child is one step further down
  higher : (p x : ℕ) → Child kids p x → height x ≡ height p + 1
  unfolding endless
  higher p x c =
      let l = ok.nodes p x c in
      rank_more (parent_of kids) (length kids) x p l (parent_is kids ok x p c) (ltb-false _ _ (ends x l))

  -- one level more lists nothing new
  enough : (levels x : ℕ) → x < length kids → length kids < levels + height x
      → preorder kids levels x ≡ preorder kids (suc levels) x
  unfolding preorder
  enough zero x l h = absurd (omega (arith, rank_low (parent_of kids) (length kids) x))
  enough (suc k) x l h =
      ap (λ xs. x ∷ xs) (turn_same _ _ (get_or kids x [])
      (λ c i. enough k c (ok.nodes x c (l, i)) (omega (arith, higher x c (l, i)))))

  -- a node is followed by its first child and all under it, then the next child
  pub order_is : (levels x : ℕ) → length kids ≤ levels → x < length kids
      → preorder kids levels x ≡ x ∷ in_turn (preorder kids levels) (get_or kids x [])
  unfolding preorder
  order_is levels x h l = enough levels x l (omega (arith, rank_pos (parent_of kids) (length kids) x l))
