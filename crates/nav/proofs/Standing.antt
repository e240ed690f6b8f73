-- What stands at a place: one tree, which `tree_at` computes.
-- Assumes nothing.
use Prim.Native.Nat.{ℕ}
use mathlib.Core.Path.{◌≡◌, refl, ap}
use mathlib.Core.List.{List}
use mathlib.Core.Option.{Option, some, none}
use Rattle.json_text.specs.Tree.{Json}
use Rattle.json_text.specs.Faults.{Fault, NoValue}
use Rattle.json_text.specs.Scans.{ValueOk}
use Rattle.json_text.specs.Parse.{Got, said, front_run, tree_at}
use Rattle.json_text.specs.Parse.Got.{got, lost}
use Rattle.nav.specs.Places.{Stands}
use Rattle.json_text.proofs.Unique.{value_unique}
use Rattle.json_text.proofs.Excluded.{no_value}
use Rattle.nav.proofs.Steps.{wrong_none}

-- one tree
pub stands_unique : {w : List ℕ} {i j : Json} → Stands w i → Stands w j → i ≡ j
stands_unique a b = (value_unique a.reads a.stop b.reads b.stop).0

-- where a scan finds a value, it stands
pub stands_of : {w r : List ℕ} (k : ValueOk 32 w r) → Stands w k.0
stands_of {r = r} k = record { rest = r; reads = k.1; stop = k.2; shallow = k.3 }

-- and where it finds none, nothing does
pub no_stands : {f : Fault} {w r : List ℕ} {j : Json} → NoValue 32 w f r → Stands w j → ⊥
no_stands k t = wrong_none (no_value k t.reads t.stop) t.shallow

-- a reading gives the tree that stands there
to_tree : {w : List ℕ} {j : Json} (g : Got (ValueOk 32 w) (NoValue 32 w)) → Stands w j → said g ≡ some j
to_tree (got r k) t = ap some (stands_unique (stands_of k) t)
to_tree (lost f r k) t = absurd (no_stands k t)

-- and none where nothing stands
to_none : {w : List ℕ} (g : Got (ValueOk 32 w) (NoValue 32 w)) → ((j : Json) → Stands w j → ⊥) → said g ≡ none
to_none (got r k) f = absurd (f k.0 (stands_of k))
to_none (lost f r k) g = refl

-- the tree that stands there
pub stands_tree : {w : List ℕ} {j : Json} → Stands w j → tree_at 32 w ≡ some j
unfolding tree_at
stands_tree {w = w} t = to_tree (front_run 32 w) t

-- none where nothing stands
pub none_tree : (w : List ℕ) → ((j : Json) → Stands w j → ⊥) → tree_at 32 w ≡ none
unfolding tree_at
none_tree w f = to_none (front_run 32 w) f

-- what holds of the tree at a place, or of no tree there, holds of `tree_at`
pub at_tree : (P : Option Json → Type 0) (w : List ℕ) → ((j : Json) → Stands w j → P (some j)) →
    (((j : Json) → Stands w j → ⊥) → P none) → P (tree_at 32 w)
unfolding tree_at
at_tree P w f g = by (front_run 32 w)
  where
    by : (x : Got (ValueOk 32 w) (NoValue 32 w)) → P (said x)
    by (got r k) = f k.0 (stands_of k)
    by (lost e r k) = g (λ j t. no_stands k t)
