-- What the parts of `gather` promise: the places that are kept at a member.
-- Assumes nothing: these are definitions.
use Rattle.std.specs.Prelude.{ℕ, ◌<◌, ◌≤◌, ◌≡◌, List, [], length, slice_index_or, Option, Some, None}
use Rattle.nav.specs.Words.{Quoted}

-- a place that is kept: the old one if there is one, else v where P holds
pub data Kept (P : Type 0) (v : ℕ) : Option ℕ → Option ℕ → Type 0 where
  kept_new : P → Kept P v None (Some v)
  kept_none : (P → ⊥) → Kept P v None None
  kept_old : {p : ℕ} → Kept P v (Some p) (Some p)

-- the place that is kept for each of the words ks, by the name that w starts with; where there are no words for the
-- last places, these stay
pub record KeptAll (w : List ℕ) (v : ℕ) (ks : List (List ℕ)) (old r : List (Option ℕ)) : Type 0 where
  pub long : length r ≡ length old
  pub each : (i : ℕ) → i < length old → i < length ks →
      Kept (Quoted (slice_index_or ks i []) w) v (slice_index_or old i None) (slice_index_or r i None)
  pub rest : (i : ℕ) → length ks ≤ i → slice_index_or r i None ≡ slice_index_or old i None
