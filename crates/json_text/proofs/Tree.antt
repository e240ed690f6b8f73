-- `tree_of` computes what the grammar says.
-- Assumes nothing.
use Prim.Native.Nat.{ℕ, ◌≤◌}
use native.Mathlib.Omega.{arith}
use mathlib.Core.Path.{◌≡◌, ap}
use mathlib.Core.List.{List}
use mathlib.Core.Option.{some}
use native.Mathlib.Nat.{lt_irrefl, lt_of_lt_of_le}
use Rattle.json_text.specs.Tree.{Json, depth}
use Rattle.json_text.specs.Grammar.{Text}
use Rattle.json_text.specs.Faults.{NoText}
use Rattle.json_text.specs.Faults.Fault.{broke, deep}
use Rattle.json_text.specs.Parse.{Got, TextOk, tree, text_run, tree_of}
use Rattle.json_text.specs.Parse.Got.{got, lost}
use Rattle.json_text.proofs.Unique.{text_unique}
use Rattle.json_text.proofs.Excluded.{broke_none, deep_deeper}

-- a tree that was computed
from : {n : ℕ} {s : List ℕ} {j : Json} (g : Got (TextOk n s) (NoText n s)) → tree g ≡ some j → Text s j × (depth j ≤ n)
from {j = j} (got r k) e = let h : k.0 ≡ j = cc in rw (← h) (k.1, k.2)
from (lost f r k) e = absurd (let z : ◌≡◌ {A = ℕ} 0 1 = cc in omega arith)

-- a tree that the grammar gives
to : {n : ℕ} {s : List ℕ} {j : Json} (g : Got (TextOk n s) (NoText n s)) → Text s j → depth j ≤ n → tree g ≡ some j
to (got r k) x l = ap some (text_unique k.1 x)
to (lost broke r k) x l = absurd (broke_none k x)
to (lost deep r k) x l = absurd (lt_irrefl _ (lt_of_lt_of_le (deep_deeper k x) l))

-- a computed tree is the text's
pub tree_sound : (n : ℕ) (s : List ℕ) (j : Json) → tree_of n s ≡ some j → Text s j × (depth j ≤ n)
unfolding tree_of
tree_sound n s j e = from (text_run n s) e

-- a text's tree is computed
pub tree_complete : (n : ℕ) (s : List ℕ) (j : Json) → Text s j → depth j ≤ n → tree_of n s ≡ some j
unfolding tree_of
tree_complete n s j x l = to (text_run n s) x l
