-- Lists packed into one, each at its start and of its length, and the graph that such lists are.
-- Assumes nothing: these are definitions.
use Rattle.std.specs.Prelude.{ℕ, zero, suc, ◌+◌, ◌<◌, ◌≤◌, Bool, cond, not, ◌||◌, List, [], ◌∷◌, ◌++◌, ltb, eqb, get_or, length, take, drop}
use Rattle.laws.specs.Search.{any_below}
use Rattle.graph.specs.Graph.{graph_fault}
use Rattle.graph.specs.declared.verdict.Fault.{Fault}

-- list i, where its record places it
abbrev pub list_at : List ℕ → List ℕ → List ℕ → ℕ → List ℕ
list_at starts lengths packed i = take (get_or lengths i 0) (drop (get_or starts i 0) packed)

-- record i is there, and its list within the packed list
pub record PlacedAt (starts lengths packed : List ℕ) (i : ℕ) : Type 0 where
  pub started : i < length starts
  pub measured : i < length lengths
  pub within : get_or starts i 0 + get_or lengths i 0 ≤ length packed

-- the lists below the count
unfoldable pub packed_lists : List ℕ → List ℕ → List ℕ → ℕ → List (List ℕ)
packed_lists starts lengths packed zero = []
packed_lists starts lengths packed (suc n) = packed_lists starts lengths packed n ++ (list_at starts lengths packed n ∷ [])

-- whether the count passes its capacity or the records that are there, or the start plus length of a list below the count
-- passes the packed list
unfoldable pub misplaced : ℕ → List ℕ → List ℕ → List ℕ → ℕ → Bool
misplaced capacity starts lengths packed count =
    ltb capacity count
    || ltb (length starts) count
    || ltb (length lengths) count
    || any_below (λ i. ltb (length packed) (get_or starts i 0 + get_or lengths i 0)) count

-- rules 41 to 46 on packed lists of at most 128 nodes and 8 scenes; 66 where a count or a list passes its capacity
unfoldable pub packed_fault_of : List ℕ → List ℕ → List ℕ → ℕ → List ℕ → List ℕ → List ℕ → ℕ → Fault
packed_fault_of node_starts node_lengths children nodes scene_starts scene_lengths roots scenes =
    cond (misplaced 128 node_starts node_lengths children nodes || misplaced 8 scene_starts scene_lengths roots scenes)
    (record { number = 66; item = 0 })
    (graph_fault (packed_lists node_starts node_lengths children nodes) (packed_lists scene_starts scene_lengths roots scenes))

-- refusal 66: a count or a list passes its capacity, or one of rules 41 to 46 is broken
unfoldable pub packed_refused : List ℕ → List ℕ → List ℕ → ℕ → List ℕ → List ℕ → List ℕ → ℕ → Bool
packed_refused node_starts node_lengths children nodes scene_starts scene_lengths roots scenes =
    not (eqb (packed_fault_of node_starts node_lengths children nodes scene_starts scene_lengths roots scenes).number 0)

-- Packing: the lists lie one after the other without gaps, which is `joined`.

-- where each list starts, the first at `at`; an empty list, as an absent one, at 0
unfoldable pub starts_from : ℕ → List (List ℕ) → List ℕ
starts_from at [] = []
starts_from at (list ∷ lists) = cond (eqb (length list) 0) 0 at ∷ starts_from (at + length list) lists

-- how long each list is
unfoldable pub lengths_of : List (List ℕ) → List ℕ
lengths_of [] = []
lengths_of (list ∷ lists) = length list ∷ lengths_of lists
