-- The walk in the paper's words. Assumes nothing: these are definitions.
use Rattle.std.specs.Prelude.{ℕ, ◌+◌, ◌<◌, ◌≤◌, ◌≡◌, List, [], ◌∷◌, ◌++◌, ◌⊎◌, get_or, length}
use Rattle.tables.specs.declared.Tables.{Tables}
use Rattle.tables.specs.Records.{no_list}
use Rattle.graph.specs.Rules.{Broken}
use Rattle.graph.specs.Order.{Walk}
use Rattle.scene.specs.Lists.{kids_of, roots_of}
use Rattle.scene.specs.Walk.{Outcome, refused, accepted}

-- the arrays have the lengths of their type, as those of every value that the code handles
pub record Sized (t : Tables) : Type 0 where
  pub nodes : length t.node_lists ≡ 128
  pub children : length t.children ≡ 128
  pub scenes : length t.scene_lists ≡ 8
  pub roots : length t.roots ≡ 1024

-- 66: one of the five counts passes its capacity, the start plus length of a list below the count does, or one of rules
-- 41 to 46 is broken
pub data Unfit (t : Tables) : Type 0 where
  buffers : 1 < t.buffers → Unfit t
  views : 64 < t.views → Unfit t
  accessors : 128 < t.accessors → Unfit t
  nodes : 128 < t.nodes → Unfit t
  scenes : 8 < t.scenes → Unfit t
  children : (i : ℕ) → i < t.nodes
      → 128 < (get_or t.node_lists i no_list).start + (get_or t.node_lists i no_list).length → Unfit t
  roots : (i : ℕ) → i < t.scenes
      → 1024 < (get_or t.scene_lists i no_list).start + (get_or t.scene_lists i no_list).length → Unfit t
  rule : (number item : ℕ) → Broken (kids_of t) (roots_of t) number item → Unfit t

-- the nodes of a list in listed order, each followed by its first child and all under it, then the next child; the levels
-- are not counted
pub data InOrder (kids : List (List ℕ)) : List ℕ → List ℕ → Type 0 where
  none : InOrder kids [] []
  next : {x : ℕ} {list under rest : List ℕ} → InOrder kids (get_or kids x []) under → InOrder kids list rest
      → InOrder kids (x ∷ list) (x ∷ (under ++ rest))

-- the nodes found of a scene: in that order; exactly those that are a root or under one, each once, no more than nodes
pub record Found (t : Tables) (scene : ℕ) (order : List ℕ) : Type 0 where
  pub ordered : InOrder (kids_of t) (get_or (roots_of t) scene []) order
  pub exact : Walk (kids_of t) (get_or (roots_of t) scene []) order
  pub few : length order ≤ t.nodes

-- what the answer is: 64, then 66, then 65, else the nodes found
pub data Answer (t : Tables) (scene : ℕ) (list : List ℕ) : Outcome → Type 0 where
  no_scene : (t.scenes ≤ scene) ⊎ (8 ≤ scene) → Answer t scene list (refused 64 list)
  unfit : scene < t.scenes → scene < 8 → Unfit t → Answer t scene list (refused 66 list)
  short : scene < t.scenes → scene < 8 → (Unfit t → ⊥) → (order : List ℕ) → Found t scene order
      → length list < length order → Answer t scene list (refused 65 list)
  walked : scene < t.scenes → scene < 8 → (Unfit t → ⊥) → (order : List ℕ) → Found t scene order
      → length order ≤ length list → Answer t scene list (accepted order list)
