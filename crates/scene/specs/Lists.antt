-- The graph that the tables' lists are. Assumes nothing: these are definitions.
use Rattle.std.specs.Prelude.{ℕ}
use mathlib.Core.List as L
use Rattle.tables.specs.declared.List.{List}
use Rattle.tables.specs.declared.Tables.{Tables}
use Rattle.graph.specs.Packing.{packed_lists}

-- where each list starts
abbrev pub starts_of : L.List List → L.List ℕ
starts_of records = L.map (λ (r : List). r.start) records

-- how long each list is
abbrev pub lengths_of : L.List List → L.List ℕ
lengths_of records = L.map (λ (r : List). r.length) records

-- the nodes' children, in node order
abbrev pub kids_of : Tables → L.List (L.List ℕ)
kids_of t = packed_lists (starts_of t.node_lists) (lengths_of t.node_lists) t.children t.nodes

-- the scenes' roots, in scene order
abbrev pub roots_of : Tables → L.List (L.List ℕ)
roots_of t = packed_lists (starts_of t.scene_lists) (lengths_of t.scene_lists) t.roots t.scenes
