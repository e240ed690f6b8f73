-- The walk of tables is the walk of their packed lists. Assumes nothing.
use Prim.Native.Nat.{ℕ}
use mathlib.Core.Path.{◌≡◌}
use mathlib.Core.Bool.{◌||◌}
use mathlib.Core.List.{List}
use lib.Dec.{ltb}
use Rattle.laws.proofs.Tests.{by_test}
use Rattle.tables.specs.declared.Tables.{Tables}
use Rattle.graph.specs.declared.packed.Packed.{Packed}
use Rattle.scene.specs.Lists.{starts_of, lengths_of}
use Rattle.scene.specs.Walk.{walk_unfit, walk_of}
use Rattle.scene.specs.Steps.{walk_lists, walk_packed}

-- the three counts that no list has are tested before
pub walk_packed_lem : (t : Tables) (scene : ℕ) (list : List ℕ)
    → walk_packed (ltb 1 t.buffers || ltb 64 t.views || ltb 128 t.accessors)
    (starts_of t.node_lists) (lengths_of t.node_lists) t.children t.nodes
    (starts_of t.scene_lists) (lengths_of t.scene_lists) t.roots t.scenes scene list
    ≡ walk_of t scene list
unfolding walk_of walk_unfit walk_lists walk_packed
walk_packed_lem t scene list =
    by_test (ltb 1 t.buffers || ltb 64 t.views || ltb 128 t.accessors) (λ e. rw e) (λ e. rw e)

-- packed lists are these
pub record Packs (packed : Packed) (st ln en : List ℕ) (n : ℕ) : Type 0 where
  pub starts : packed.starts.now ≡ st
  pub lengths : packed.lengths.now ≡ ln
  pub entries : packed.entries.now ≡ en
  pub count : packed.count ≡ n

-- the same, where the places were copied out
pub places_packed : (t : Tables) (nodes scenes : Packed)
    → Packs nodes (starts_of t.node_lists) (lengths_of t.node_lists) t.children t.nodes
    → Packs scenes (starts_of t.scene_lists) (lengths_of t.scene_lists) t.roots t.scenes
    → (scene : ℕ) (list : List ℕ)
    → walk_packed (ltb 1 t.buffers || ltb 64 t.views || ltb 128 t.accessors)
    nodes.starts.now nodes.lengths.now nodes.entries.now nodes.count
    scenes.starts.now scenes.lengths.now scenes.entries.now scenes.count scene list
    ≡ walk_of t scene list
places_packed t nodes scenes n s scene list =
    rw (n.starts, n.lengths, n.entries, n.count, s.starts, s.lengths, s.entries, s.count)
    (walk_packed_lem t scene list)
