-- Little-endian numbers. Assumes nothing: these are definitions.
use Rattle.std.specs.Prelude.{ℕ, ◌+◌, ◌*◌, List, [], ◌∷◌, take, drop}

-- the number that the bytes spell, least significant first
unfoldable pub little : List ℕ → ℕ
little [] = 0
little (b ∷ bs) = b + 256 * little bs

-- the number in the k bytes from p on
unfoldable pub little_at : List ℕ → ℕ → ℕ → ℕ
little_at bytes p k = little (take k (drop p bytes))
