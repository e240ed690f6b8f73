-- What `open` says of a file, in the paper's terms. Proved in proofs/Exact as `container_exact`, with its two converses.
-- Assumes nothing: these are definitions.
use Rattle.std.specs.Prelude.{ℕ, ◌+◌, ◌≡◌, true, false, List}
use Rattle.laws.specs.Verdict.{Smallest}
use Rattle.container.specs.Records.{Container}
use Rattle.container.specs.Rules.{refused}
use Rattle.container.specs.Meaning.{Broken, Starts, IsChunk, chunk_length_at, chunk_type_at, JSON, BIN}

-- the data of a chunk that starts at `at` lie 8 bytes behind it; start and length are those
pub record DataOf (f : List ℕ) (i type start size : ℕ) : Type 0 where
  pub at : ℕ
  pub starts : Starts f i at
  pub chunk : IsChunk f at
  pub typed : chunk_type_at f at ≡ type
  pub place : start ≡ at + 8
  pub bytes : size ≡ chunk_length_at f at

-- where the chunks of an accepted file lie: JSON is chunk 0; BIN is chunk 1 where it is there, and else no chunk is BIN
pub data Lies (f : List ℕ) : Container → Type 0 where
  with_bin : {j js b bs : ℕ} → DataOf f 0 JSON j js → DataOf f 1 BIN b bs
      → Lies f (record { number = 0; item = 0; json_start = j; json_length = js; has_bin = true; bin_start = b; bin_length = bs })
  without_bin : {j js : ℕ} → DataOf f 0 JSON j js → ((i at : ℕ) → Starts f i at → IsChunk f at → chunk_type_at f at ≡ BIN → ⊥)
      → Lies f (record { number = 0; item = 0; json_start = j; json_length = js; has_bin = false; bin_start = 0; bin_length = 0 })

-- no rule of 1 to 8 is broken, and the places are the chunks'; or the smallest that is broken, with its smallest item, and all places 0
pub data Exact (f : List ℕ) : Container → Type 0 where
  accepted : {r : Container} → ((n i : ℕ) → Broken f n i → ⊥) → Lies f r → Exact f r
  refused_by : {n i : ℕ} → Smallest (Broken f) n i → Exact f (refused n i)
