-- The chunks of a GLB file, by recursion on what is left of it. All numbers are little-endian u32.
-- Assumes nothing: these are definitions.
use Rattle.std.specs.Prelude.{ℕ, zero, suc, ◌+◌, ◌%◌, Bool, cond, ◌&&◌, List, [], ◌∷◌, leb, eqb, length}
use Rattle.laws.specs.Bytes.{little_at}

-- a chunk's two numbers
pub record Chunk : Type 0 where
  pub chunk_length : ℕ
  pub chunk_type : ℕ

-- the two numbers of the header that w starts with
unfoldable pub header_at : List ℕ → Chunk
header_at w = record { chunk_length = little_at w 0 4; chunk_type = little_at w 4 4 }

-- a header, a chunkLength that is a multiple of 4, and data that do not pass the end
unfoldable pub starts_whole : List ℕ → Bool
starts_whole w = leb 8 (length w) && eqb ((header_at w).chunk_length % 4) 0 && leb (8 + (header_at w).chunk_length) (length w)

-- the whole chunks from the front of w on; the first k bytes of w belong to the chunk before
unfoldable pub chunks_from : ℕ → List ℕ → List Chunk
chunks_from k [] = []
chunks_from (suc k) (b ∷ w) = chunks_from k w
chunks_from zero (b ∷ w) =
    cond (starts_whole (b ∷ w)) (header_at (b ∷ w) ∷ chunks_from (7 + (header_at (b ∷ w)).chunk_length) w) []

-- the chunks of a file: the header is 12 bytes
unfoldable pub chunks_of : List ℕ → List Chunk
chunks_of file = chunks_from 12 file

-- the bytes that chunks take, each with its header of 8
unfoldable pub bytes_of : List Chunk → ℕ
bytes_of [] = 0
bytes_of (c ∷ cs) = 8 + c.chunk_length + bytes_of cs
