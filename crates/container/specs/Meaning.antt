-- Rules 1 to 8 in document 01's words: `Broken f n i`, rule n is broken by the file f with item i, the chunk where one is named.
-- Assumes nothing: these are definitions.
use Rattle.std.specs.Prelude.{ℕ, suc, ◌+◌, ◌%◌, ◌≤◌, ◌<◌, ◌≡◌, List, length}
use Rattle.laws.specs.Bytes.{little_at}

-- Chunk: chunkLength, chunkType, data
abbrev pub chunk_length_at : List ℕ → ℕ → ℕ
chunk_length_at f at = little_at f at 4

-- its second number
abbrev pub chunk_type_at : List ℕ → ℕ → ℕ
chunk_type_at f at = little_at f (at + 4) 4

-- a chunk at a byte of the file: its header is not cut, its chunkLength is a multiple of 4, its data do not pass the end
pub record IsChunk (f : List ℕ) (at : ℕ) : Type 0 where
  pub header : at + 8 ≤ length f
  pub multiple : chunk_length_at f at % 4 ≡ 0
  pub inside : at + 8 + chunk_length_at f at ≤ length f

-- where chunk i starts: chunk 0 at byte 12, each other one behind the data of the one before
pub data Starts (f : List ℕ) : ℕ → ℕ → Type 0 where
  starts_first : Starts f 0 12
  starts_next : {i at : ℕ} → Starts f i at → IsChunk f at → Starts f (suc i) (at + 8 + chunk_length_at f at)

-- the type of the JSON chunk
abbrev pub JSON : ℕ
JSON = 0x4E4F534A

-- the type of the BIN chunk
abbrev pub BIN : ℕ
BIN = 0x004E4942

-- one constructor or two for each line of the rule table
pub data Broken (f : List ℕ) : ℕ → ℕ → Type 0 where
  -- fewer than 20 or more than 16,777,216 bytes
  rule1_few : length f < 20 → Broken f 1 0
  rule1_many : 16777216 < length f → Broken f 1 0
  -- magic differs
  rule2 : (little_at f 0 4 ≡ 0x46546C67 → ⊥) → Broken f 2 0
  -- version is not 2
  rule3 : (little_at f 4 4 ≡ 2 → ⊥) → Broken f 3 0
  -- length differs from the number of bytes lent
  rule4 : (little_at f 8 4 ≡ length f → ⊥) → Broken f 4 0
  -- chunks from byte 12 do not fill the file: where chunk i would start there are bytes left, and they are no chunk
  rule5 : {i at : ℕ} → Starts f i at → at < length f → (IsChunk f at → ⊥) → Broken f 5 i
  -- chunk 0 is not JSON, or a later one is
  rule6_first : {at : ℕ} → Starts f 0 at → IsChunk f at → (chunk_type_at f at ≡ JSON → ⊥) → Broken f 6 0
  rule6_later : {i at : ℕ} → 0 < i → Starts f i at → IsChunk f at → chunk_type_at f at ≡ JSON → Broken f 6 i
  -- a BIN chunk that is not chunk 1
  rule7 : {i at : ℕ} → Starts f i at → IsChunk f at → chunk_type_at f at ≡ BIN → (i ≡ 1 → ⊥) → Broken f 7 i
  -- JSON chunk over 65,536 bytes
  rule8 : {i at : ℕ} → Starts f i at → IsChunk f at → chunk_type_at f at ≡ JSON → 65536 < chunk_length_at f at → Broken f 8 0
