-- The places that are kept at a member, word by word.
-- Assumes nothing.
use Prim.Native.Nat.{ℕ, ◌≤◌, ◌<◌}
use mathlib.Core.Path.{◌≡◌}
use mathlib.Core.List.{List, []}
use lib.ListN.{length, get_or}
use Rattle.std.specs.Prelude.{Option, None}
use Rattle.nav.specs.Words.{Quoted}
use Rattle.nav.specs.Gathers.{Kept}

-- the places for the first n of the words
pub record KeptTo (w : List ℕ) (v n : ℕ) (ks : List (List ℕ)) (old r : List (Option ℕ)) : Type 0 where
  pub long : length r ≡ length old
  pub each : (i : ℕ) → i < length old → i < n →
      Kept (Quoted (get_or ks i []) w) v (get_or old i None) (get_or r i None)
  pub rest : (i : ℕ) → n ≤ i → get_or r i None ≡ get_or old i None
