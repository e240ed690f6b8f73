-- Rules 1 to 8, in the order of the rule table, and what opening a file answers.
-- Assumes nothing: these are definitions.
use Rattle.std.specs.Prelude.{ℕ, ◌+◌, Bool, false, cond, not, ◌&&◌, ◌||◌, List, [], ◌∷◌, ◌++◌, map, ltb, eqb, length, get_or}
use Rattle.laws.specs.Bytes.{little_at}
use Rattle.laws.specs.Search.{least, any_below, first_true}
use Rattle.container.specs.Records.{Container}
use Rattle.container.specs.Chunks.{Chunk, chunks_of, bytes_of}

-- chunk i of the file, zeros where there is none
abbrev pub chunk_at : List ℕ → ℕ → Chunk
chunk_at file i = get_or (chunks_of file) i (record { chunk_length = 0; chunk_type = 0 })

-- type 0x4E4F534A
abbrev pub is_json : Chunk → Bool
is_json c = eqb c.chunk_type 0x4E4F534A

-- type 0x004E4942
abbrev pub is_bin : Chunk → Bool
is_bin c = eqb c.chunk_type 0x004E4942

-- 6: chunk 0 is not JSON, or a later one is
abbrev pub misplaced_json : List ℕ → ℕ → Bool
misplaced_json file i = eqb i 0 && not (is_json (chunk_at file i)) || ltb 0 i && is_json (chunk_at file i)

-- 7: a BIN chunk that is not chunk 1
abbrev pub misplaced_bin : List ℕ → ℕ → Bool
misplaced_bin file i = is_bin (chunk_at file i) && not (eqb i 1)

-- a row of the rule table: whether the rule is broken, and the smallest item that breaks it
pub record Row : Type 0 where
  pub broken : Bool
  pub item : ℕ

-- a row by its two parts
abbrev pub row : Bool → ℕ → Row
row b i = record { broken = b; item = i }

-- how many chunks there are
abbrev pub count : List ℕ → ℕ
count file = length (chunks_of file)

-- rules 1 to 4
unfoldable pub header_rows : List ℕ → List Row
header_rows file =
    -- 1: fewer than 20 or more than 16,777,216 bytes
    row (ltb (length file) 20 || ltb 16777216 (length file)) 0
    -- 2: magic differs
    ∷ row (not (eqb (little_at file 0 4) 0x46546C67)) 0
    -- 3: version is not 2
    ∷ row (not (eqb (little_at file 4 4) 2)) 0
    -- 4: length differs from the number of bytes lent
    ∷ row (not (eqb (little_at file 8 4) (length file))) 0
    ∷ []

-- rules 5 to 8
unfoldable pub chunk_rows : List ℕ → List Row
chunk_rows file =
    -- 5: chunks from byte 12 do not fill the file
    row (not (eqb (12 + bytes_of (chunks_of file)) (length file))) (count file)
    -- 6: chunk 0 is not JSON, or a later one is
    ∷ row (any_below (misplaced_json file) (count file)) (least (misplaced_json file) (count file))
    -- 7: a BIN chunk that is not chunk 1
    ∷ row (any_below (misplaced_bin file) (count file)) (least (misplaced_bin file) (count file))
    -- 8: JSON chunk over 65,536 bytes
    ∷ row (ltb 65536 (chunk_at file 0).chunk_length) 0
    ∷ []

-- rules 1 to 8
abbrev pub rows : List ℕ → List Row
rows file = header_rows file ++ chunk_rows file

-- the place of the first row that is broken, and how many rows there are where none is
abbrev pub first_broken : List Row → ℕ
first_broken rs = first_true (map (λ r. r.broken) rs)

-- on refusal all places are 0
abbrev pub refused : ℕ → ℕ → Container
refused n i =
    record { number = n; item = i; json_start = 0; json_length = 0; has_bin = false; bin_start = 0; bin_length = 0 }

-- the data of chunk 0 start behind the header's 12 bytes and the chunk's 8, those of chunk 1 behind that
unfoldable pub opened : List ℕ → Container
opened file =
    record {
      number = 0;
      item = 0;
      json_start = 20;
      json_length = (chunk_at file 0).chunk_length;
      has_bin = is_bin (chunk_at file 1);
      bin_start = cond (is_bin (chunk_at file 1)) (28 + (chunk_at file 0).chunk_length) 0;
      bin_length = cond (is_bin (chunk_at file 1)) (chunk_at file 1).chunk_length 0;
    }

-- the smallest rule that is broken with its smallest item, or where the chunks lie
unfoldable pub container_of : List ℕ → Container
container_of file =
    cond (ltb (first_broken (rows file)) 8)
    (refused (1 + first_broken (rows file)) (get_or (map (λ r. r.item) (rows file)) (first_broken (rows file)) 0))
    (opened file)
