-- What the code's types say, in the words of the definitions.
-- Assumes nothing: these are definitions.
use Rattle.std.specs.Prelude.{ℕ, ◌≡◌, cond, eqb, slice_index, map, List, [], ◌∷◌, Option, Some, None}
use Rattle.std.specs.List.{range_with_len}
use Rattle.nav.specs.declared.members.Members.{Members}
use Rattle.nav.specs.Members.{Places}

-- the byte that w starts with, if there is one
abbrev pub front_of : List ℕ → Option ℕ
front_of [] = None
front_of (b ∷ w) = Some b

-- a place, where the definitions have 0 for none
abbrev pub as_place : ℕ → Option ℕ
as_place p = cond (eqb p 0) None (Some p)

-- o is a place of which P holds, or none where P holds of 0
pub record Placed (P : ℕ → Type 0) (o : Option ℕ) : Type 0 where
  pub at : ℕ
  pub holds : P at
  pub is : o ≡ as_place at

-- the first n of the places, and none for each that they lack; and the place past the object
unfoldable pub members_of : (n : ℕ) → Places → Members n
members_of n p = record { places = map (λ i. as_place (slice_index p.places i)) (range_with_len 0 n); past = as_place p.past }
