-- The walk of a scene into a lent list: 64, then 66, then 65. Assumes nothing: these are definitions.
use Rattle.std.specs.Prelude.{ℕ, Bool, cond, ◌||◌, List, [], ◌++◌, ltb, leb, get_or, length, drop}
use Rattle.tables.specs.declared.Tables.{Tables}
use Rattle.graph.specs.Packing.{packed_refused}
use Rattle.graph.specs.Order.{scene_order}
use Rattle.scene.specs.declared.Walked.{Walked}
use Rattle.scene.specs.Lists.{starts_of, lengths_of, kids_of, roots_of}

-- the answer, and the lent list after it
pub record Outcome : Type 0 where
  pub walked : Walked
  pub list : List ℕ

-- refused with this number: the list is unchanged and the count 0
abbrev pub refused : ℕ → List ℕ → Outcome
refused number list = record { walked = record { number = number; count = 0 }; list = list }

-- the nodes stand in their order at the front of the list; entries past the count stay
abbrev pub accepted : List ℕ → List ℕ → Outcome
accepted order list =
    record {
      walked = record { number = 0; count = length order };
      list = order ++ drop (length order) list;
    }

-- 65 where the list is shorter than the nodes found
unfoldable pub listed : List ℕ → List ℕ → Outcome
listed order list = cond (ltb (length list) (length order)) (refused 65 list) (accepted order list)

-- 66: one of the five counts, or the start plus length of a list, passes its capacity, or one of rules 41 to 46 is
-- broken; the counts of nodes and scenes are in `packed_refused`
unfoldable pub walk_unfit : Tables → Bool
walk_unfit t =
    ltb 1 t.buffers || ltb 64 t.views || ltb 128 t.accessors
    || packed_refused (starts_of t.node_lists) (lengths_of t.node_lists) t.children t.nodes
    (starts_of t.scene_lists) (lengths_of t.scene_lists) t.roots t.scenes

-- the levels of a walk: as many as there may be nodes, so that nothing is cut off
abbrev pub levels : ℕ
levels = 128

-- the nodes found: roots in listed order, each with all under it
abbrev pub order_of : Tables → ℕ → List ℕ
order_of t scene = scene_order (kids_of t) levels (get_or (roots_of t) scene [])

-- the whole answer: 64 where the scene index is not below the count or not below 8, then 66, then 65
unfoldable pub walk_of : Tables → ℕ → List ℕ → Outcome
walk_of t scene list =
    cond (leb t.scenes scene || leb 8 scene) (refused 64 list)
    (cond (walk_unfit t) (refused 66 list)
    (listed (order_of t scene) list))
