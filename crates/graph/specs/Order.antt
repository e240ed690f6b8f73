-- The order of a walk, and what is under a node. Assumes nothing: these are definitions.
use Rattle.std.specs.Prelude.{ℕ, zero, suc, ◌≤◌, List, [], ◌∷◌, ◌++◌, get_or, length}
use Rattle.graph.specs.Rules.{In, Again, Child}

-- what f gives for each entry of the list, one after the other
unfoldable pub in_turn : (ℕ → List ℕ) → List ℕ → List ℕ
in_turn f [] = []
in_turn f (x ∷ list) = f x ++ in_turn f list

-- a node, then each child with all under it, down to so many levels
unfoldable pub preorder : List (List ℕ) → ℕ → ℕ → List ℕ
preorder kids zero x = []
preorder kids (suc levels) x = x ∷ in_turn (preorder kids levels) (get_or kids x [])

-- the walk of a scene with this list of roots: the roots in listed order, each with all under it
abbrev pub scene_order : List (List ℕ) → ℕ → List ℕ → List ℕ
scene_order kids levels list = in_turn (preorder kids levels) list

-- under a node are its children and all under them
pub data Under (kids : List (List ℕ)) : ℕ → ℕ → Type 0 where
  child : {p x : ℕ} → Child kids p x → Under kids p x
  deeper : {p x : ℕ} (c : ℕ) → Child kids p c → Under kids c x → Under kids p x

-- x is one of the roots, or under one
pub data Shown (kids : List (List ℕ)) (list : List ℕ) (x : ℕ) : Type 0 where
  root : In x list → Shown kids list x
  below : (r : ℕ) → In r list → Under kids r x → Shown kids list x

-- what an order over these roots must be: exactly the nodes that are a root or under one, each once, no more than nodes
pub record Walk (kids : List (List ℕ)) (list order : List ℕ) : Type 0 where
  pub listed : (x : ℕ) → In x order → Shown kids list x
  pub shown : (x : ℕ) → Shown kids list x → In x order
  pub once : (x : ℕ) → Again x order → ⊥
  pub few : length order ≤ length kids
