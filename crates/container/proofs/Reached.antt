-- The chunks as the paper counts them are those of `chunks_of`.
-- Assumes nothing.
use Prim.Native.Nat.{ℕ, zero, suc, ◌+◌, ◌-◌, ◌≤◌, ◌<◌}
use mathlib.Core.Path.{◌≡◌, refl, sym, ap, ◌∙◌}
use mathlib.Core.Bool.{true, true≢false}
use mathlib.Core.List.{List}
use native.Mathlib.Numerals.{add-one}
use native.Mathlib.Omega.{arith}
use borrow.Author.Tests.{ltb-true, ltb-false, leb-true, le-leb, eqb-true, eq-eqb}
use lib.Dec.{ltb}
use lib.ListN.{length, drop, length-drop}
use Rattle.std.specs.Prelude.{Option, None}
use Rattle.laws.proofs.Tests.{by_test, and-true}
use Rattle.container.specs.Chunks.{Chunk, header_at, starts_whole, chunks_of, bytes_of}
use Rattle.container.specs.Rules.{chunk_at, count}
use Rattle.container.specs.Meaning.{IsChunk, Starts, chunk_length_at, chunk_type_at}
use Rattle.container.specs.Meaning.Starts.{starts_first, starts_next}
use Rattle.container.proofs.Chunks.{chunks_none, chunks_more, whole_long, whole_short}
use Rattle.container.proofs.Stages.{Stage, stage_first, stage_next, chunk_at_lem, length_at, type_at}

-- a chunk, and the test for one
pub chunk_whole : (f : List ℕ) (at : ℕ) → IsChunk f at → starts_whole (drop at f) ≡ true
chunk_whole f at c =
    whole_long f at (omega (arith, c.header))
    ∙ rw (eq-eqb _ _ c.multiple, le-leb (chunk_length_at f at) (length f - at - 8) (omega (arith, c.header, c.inside)))

-- and back
pub whole_chunk : (f : List ℕ) (at : ℕ) → starts_whole (drop at f) ≡ true → IsChunk f at
whole_chunk f at e =
    by_test (ltb (length f - at) 8)
    (λ t. absurd (true≢false (sym e ∙ whole_short f at (ltb-true (length f - at) 8 t))))
    (λ t. let long = ltb-false (length f - at) 8 t in
    let a = and-true _ _ (sym (whole_long f at long) ∙ e) in
    let fits = leb-true (chunk_length_at f at) (length f - at - 8) a.1 in
    record { header = omega arith; multiple = eqb-true _ _ a.0; inside = omega arith })

-- a stage at the place, whatever was found on the way
pub record At (f : List ℕ) (i at : ℕ) : Type 0 where
  pub json : Option ℕ
  pub bin : Option ℕ
  pub stage : Stage f at i json bin

-- where a chunk starts in the paper's words there is a stage
pub reached : (f : List ℕ) (i at : ℕ) → 12 ≤ length f → Starts f i at → At f i at
reached f zero at l starts_first = record { json = None; bin = None; stage = stage_first f l }
reached f (suc i) at l (starts_next {at = p} s c) =
    let a = reached f i p l s in
    let w = chunk_whole f p c in
    let n = stage_next f p i a.json a.bin a.stage w (header_at (drop p f)).chunk_type refl in
    record { json = _; bin = _; stage = rw (← length_at f p i a.json a.bin a.stage w, add-one i) at n }

-- where fewer chunks are passed than there are, another starts
more_whole : (f : List ℕ) (i at : ℕ) → At f i at → i < count f → starts_whole (drop at f) ≡ true
more_whole f i at a l =
    by_test (starts_whole (drop at f)) (λ t. t)
    (λ t. absurd (omega (arith, length-drop i (chunks_of f), ap length (a.stage.rest ∙ chunks_none (drop at f) t))))

-- each chunk starts somewhere, and what follows the last one too
pub place : (f : List ℕ) → 12 ≤ length f → (i : ℕ) → i ≤ count f → (at : ℕ) × Starts f i at
place f l zero h = (12, starts_first)
place f l (suc i) h =
    let p = place f l i (omega arith) in
    (_, starts_next p.1 (whole_chunk f p.0 (more_whole f i p.0 (reached f i p.0 l p.1) (omega arith))))

-- a chunk of the file is the one of that number, with its two numbers
module _ (f : List ℕ) (l : 12 ≤ length f) (i at : ℕ) (s : Starts f i at) (c : IsChunk f at) where
  -- the stage there
  here : At f i at
  here = reached f i at l s

  -- a whole chunk starts there
  whole : starts_whole (drop at f) ≡ true
  whole = chunk_whole f at c

  -- it is one of the chunks
  pub chunk_below : i < count f
  chunk_below = omega (arith, length-drop i (chunks_of f), ap length (here.stage.rest ∙ chunks_more (drop at f) whole))

  -- its chunkLength
  pub chunk_length_lem : (chunk_at f i).chunk_length ≡ chunk_length_at f at
  chunk_length_lem =
      ap (λ (k : Chunk). k.chunk_length) (chunk_at_lem f at i here.json here.bin here.stage whole)
      ∙ sym (length_at f at i here.json here.bin here.stage whole)

  -- its chunkType
  pub chunk_type_lem : (chunk_at f i).chunk_type ≡ chunk_type_at f at
  chunk_type_lem =
      ap (λ (k : Chunk). k.chunk_type) (chunk_at_lem f at i here.json here.bin here.stage whole)
      ∙ sym (type_at f at i here.json here.bin here.stage whole)

-- chunk i, where it starts
pub record There (f : List ℕ) (i : ℕ) : Type 0 where
  pub at : ℕ
  pub starts : Starts f i at
  pub is : IsChunk f at

-- each chunk of the list is one in the paper's words
pub chunk_there : (f : List ℕ) → 12 ≤ length f → (i : ℕ) → i < count f → There f i
chunk_there f l i h =
    let p = place f l i (omega arith) in
    record { at = p.0; starts = p.1; is = whole_chunk f p.0 (more_whole f i p.0 (reached f i p.0 l p.1) h) }

-- where no chunk starts all are passed
module _ (f : List ℕ) (l : 12 ≤ length f) where
  -- as many as there are
  pub stop_count : (i at : ℕ) → Starts f i at → (IsChunk f at → ⊥) → i ≡ count f
  stop_count i at s not =
      let a = reached f i at l s in
      by_test (ltb i (count f))
      (λ t. absurd (not (whole_chunk f at (more_whole f i at a (ltb-true i (count f) t)))))
      (λ t. omega (arith, ltb-false i (count f) t, a.stage.known))

  -- and the place is the end of the last
  pub stop_bytes : (i at : ℕ) → Starts f i at → (IsChunk f at → ⊥) → 12 + bytes_of (chunks_of f) ≡ at
  unfolding bytes_of
  stop_bytes i at s not =
      let a = reached f i at l s in
      by_test (starts_whole (drop at f)) (λ t. absurd (not (whole_chunk f at t)))
      (λ t. omega (arith, a.stage.bytes, ap bytes_of (chunks_none (drop at f) t)))

  -- behind the last chunk none starts
  pub last_none : (at : ℕ) → Starts f (count f) at → IsChunk f at → ⊥
  last_none at s c = omega (arith, chunk_below f l (count f) at s c)
