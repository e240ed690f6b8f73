-- What the steps of a walk ask and do. Assumes nothing: these are definitions.
use Rattle.std.specs.Prelude.{ℕ, ◌+◌, ◌<◌, ◌≤◌, ◌≡◌, Bool, cond, ◌||◌, List, [], ◌++◌, leb, get_or, length, take, drop}
use Rattle.graph.specs.Packing.{packed_lists, packed_refused}
use Rattle.graph.specs.Order.{scene_order}
use Rattle.scene.specs.Walk.{Outcome, refused, listed, levels}

-- the children lists of as many nodes as there are starts
abbrev pub kids_in : List ℕ → List ℕ → List ℕ → List (List ℕ)
kids_in starts lengths children = packed_lists starts lengths children (length starts)

-- every list of children lies within `children`, and every child is a node
pub record Linked (starts lengths children : List ℕ) : Type 0 where
  pub same : length lengths ≡ length starts
  pub within : (x : ℕ) → x < length starts → get_or starts x 0 + get_or lengths x 0 ≤ length children
  pub nodes : (x : ℕ) → x < length starts → (j : ℕ) → j < get_or lengths x 0
      → get_or children (get_or starts x 0 + j) 0 < length starts

-- every root is a node
pub record Rooted (starts roots : List ℕ) : Type 0 where
  pub nodes : (j : ℕ) → j < length roots → get_or roots j 0 < length starts

-- the list with xs in place of what stood from `at` on
unfoldable pub written : List ℕ → ℕ → List ℕ → List ℕ
written list at xs = take at list ++ (xs ++ drop (at + length xs) list)

-- 66, then 65, on packed lists
unfoldable pub walk_lists : List ℕ → List ℕ → List ℕ → ℕ → List ℕ → List ℕ → List ℕ → ℕ → ℕ → List ℕ → Outcome
walk_lists node_starts node_lengths children nodes scene_starts scene_lengths roots scenes scene list =
    cond (packed_refused node_starts node_lengths children nodes scene_starts scene_lengths roots scenes)
    (refused 66 list)
    (listed
    (scene_order (packed_lists node_starts node_lengths children nodes) levels
    (get_or (packed_lists scene_starts scene_lengths roots scenes) scene []))
    list)

-- 64, then 66 where another count is over its capacity, then as above
unfoldable pub walk_packed :
    Bool → List ℕ → List ℕ → List ℕ → ℕ → List ℕ → List ℕ → List ℕ → ℕ → ℕ → List ℕ → Outcome
walk_packed over node_starts node_lengths children nodes scene_starts scene_lengths roots scenes scene list =
    cond (leb scenes scene || leb 8 scene) (refused 64 list)
    (cond over (refused 66 list)
    (walk_lists node_starts node_lengths children nodes scene_starts scene_lengths roots scenes scene list))
