-- Where chunk 0 and chunk 1 lie in a file that its chunks fill.
-- Assumes nothing.
use Prim.Native.Nat.{ℕ, ◌+◌, ◌≤◌, ◌<◌}
use mathlib.Core.Path.{◌≡◌, refl, sym, ap, ◌∙◌}
use mathlib.Core.Bool.{true, false}
use mathlib.Core.List.{List, [], ◌∷◌}
use native.Mathlib.Omega.{arith}
use borrow.Author.Tests.{ltb-true, ltb-false}
use lib.Dec.{ltb}
use lib.ListN.{length, drop, get_or}
use lib.Seq.{get_or-drop}
use Rattle.std.specs.Prelude.{Option, None}
use Rattle.laws.specs.Bytes.{little_at}
use Rattle.laws.proofs.Tests.{by_test}
use Rattle.container.specs.Chunks.{Chunk, header_at, starts_whole, chunks_of, bytes_of}
use Rattle.container.specs.Rules.{chunk_at, count, is_bin}
use Rattle.container.proofs.Chunks.{chunks_none, whole_short, whole_within}
use Rattle.container.proofs.Stages.{Stage, stage_first, stage_next, chunk_at_lem, length_at, type_at}

-- a list of no length
length_none : (cs : List Chunk) → length cs ≤ 0 → cs ≡ []
length_none [] h = refl
length_none (c ∷ cs) h = absurd (omega arith)

-- where a stage is not at the end of a filled file, a whole chunk starts
stage_whole : (f : List ℕ) (at n : ℕ) (json bin : Option ℕ) → Stage f at n json bin → 12 + bytes_of (chunks_of f) ≡ length f → at < length f
    → starts_whole (drop at f) ≡ true
unfolding bytes_of
stage_whole f at n json bin s filled l =
    by_test (starts_whole (drop at f)) (λ t. t)
    (λ t. absurd (omega (arith, s.bytes, filled, ap bytes_of (chunks_none (drop at f) t))))

module _ (f : List ℕ) (l : 20 ≤ length f) (filled : 12 + bytes_of (chunks_of f) ≡ length f) where
  -- the stage before chunk 0
  first : Stage f 12 0 None None
  first = stage_first f (omega arith)

  -- chunk 0 is there
  first_whole : starts_whole (drop 12 f) ≡ true
  first_whole = stage_whole f 12 0 None None first filled (omega arith)

  -- so there is a chunk 0
  pub chunks_some : 0 < count f
  unfolding bytes_of
  chunks_some =
      by_test (ltb 0 (count f)) (λ t. ltb-true 0 (count f) t)
      (λ t. absurd (omega (arith, filled, l, ap bytes_of (length_none (chunks_of f) (ltb-false 0 (count f) t)))))

  -- its chunkLength
  pub json_length : little_at f 12 4 ≡ (chunk_at f 0).chunk_length
  json_length = length_at f 12 0 None None first first_whole ∙ ap (λ (c : Chunk). c.chunk_length) (sym (chunk_at_lem f 12 0 None None first first_whole))

  -- where chunk 1 would start
  abbrev at : ℕ
  at = 20 + (chunk_at f 0).chunk_length

  -- the stage there
  second : (j : Option ℕ) × (b : Option ℕ) × Stage f at 1 j b
  second =
      let e : 20 + (header_at (drop 12 f)).chunk_length ≡ at = ap (λ (c : Chunk). 20 + c.chunk_length) (sym (chunk_at_lem f 12 0 None None first first_whole)) in
      (_, _, rw e at (stage_next f 12 0 None None first first_whole (header_at (drop 12 f)).chunk_type refl))

  -- it is in the file or at its end
  pub json_within : at ≤ length f
  json_within = second.2.within

  -- a header of chunk 1 is in the file
  pub bin_room : at < length f → at + 8 ≤ length f
  bin_room h = let s = second.2 in
      omega (arith, whole_within f at s.within (stage_whole f at 1 second.0 second.1 s filled h))

  -- its chunkLength
  pub bin_length : at < length f → little_at f at 4 ≡ (chunk_at f 1).chunk_length
  bin_length h =
      let s = second.2 in
      let w = stage_whole f at 1 second.0 second.1 s filled h in
      length_at f at 1 second.0 second.1 s w ∙ ap (λ (c : Chunk). c.chunk_length) (sym (chunk_at_lem f at 1 second.0 second.1 s w))

  -- its chunkType
  pub bin_type : at < length f → little_at f (at + 4) 4 ≡ (chunk_at f 1).chunk_type
  bin_type h =
      let s = second.2 in
      let w = stage_whole f at 1 second.0 second.1 s filled h in
      type_at f at 1 second.0 second.1 s w ∙ ap (λ (c : Chunk). c.chunk_type) (sym (chunk_at_lem f at 1 second.0 second.1 s w))

  -- no chunk 1
  pub bin_none : length f ≤ at → is_bin (chunk_at f 1) ≡ false
  bin_none h =
      let none : Chunk = record { chunk_length = 0; chunk_type = 0 } in
      let e = second.2.rest ∙ chunks_none (drop at f) (whole_short f at (omega arith)) in
      ap is_bin (sym (get_or-drop 1 (chunks_of f) 0 none) ∙ ap (λ (cs : List Chunk). get_or cs 0 none) e)
