-- What the theorems speak of: tables that a value of the code can be, and the walk over whole words.
-- Assumes nothing: these are definitions.
use Rattle.std.specs.Prelude.{ℕ, ◌+◌, ◌*◌, ◌≤◌, ◌≡◌, ◌||◌, ltb, get_or, length}
use mathlib.Core.List as L
use Rattle.tables.specs.declared.List.{List}
use Rattle.tables.specs.declared.Tables.{Tables}
use Rattle.tables.specs.Records.{no_list}
use Rattle.scene.specs.Walk.{Outcome}
use Rattle.scene.specs.Steps.{walk_packed}
use Rattle.device.specs.Words.{word, entries}

-- n numbers of u16
pub record Shorts (n : ℕ) (xs : L.List ℕ) : Type 0 where
  pub many : length xs ≡ n
  pub fit : (i : ℕ) → get_or xs i 0 ≤ 65535

-- n list records of u16
pub record Lists (n : ℕ) (rs : L.List List) : Type 0 where
  pub many : length rs ≡ n
  pub starts : (i : ℕ) → (get_or rs i no_list).start ≤ 65535
  pub lengths : (i : ℕ) → (get_or rs i no_list).length ≤ 65535

-- the arrays have the lengths of their types, and the numbers of the lists are u16
pub record Stored (t : Tables) : Type 0 where
  pub views : length t.view_records ≡ 64
  pub accessors : length t.accessor_records ≡ 128
  pub nodes : Lists 128 t.node_lists
  pub children : Shorts 128 t.children
  pub scenes : Lists 8 t.scene_lists
  pub roots : Shorts 1024 t.roots

-- the walk over the list words as they are, none cut to 65,535
unfoldable pub whole_walk : L.List ℕ → ℕ → L.List ℕ → Outcome
whole_walk ws scene list =
    walk_packed (ltb 1 (word ws 0) || ltb 64 (word ws 1) || ltb 128 (word ws 2))
    (entries 128 (λ i. word ws (2576 + 2 * i))) (entries 128 (λ i. word ws (2577 + 2 * i)))
    (entries 128 (λ i. word ws (2832 + i))) (word ws 3)
    (entries 8 (λ i. word ws (2960 + 2 * i))) (entries 8 (λ i. word ws (2961 + 2 * i)))
    (entries 1024 (λ i. word ws (2976 + i))) (word ws 4) scene list
