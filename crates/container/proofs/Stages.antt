-- What the pass over the chunks keeps, and one chunk more.
-- Assumes nothing.
use Prim.Native.Nat.{ℕ, ◌+◌, ◌*◌, ◌≤◌, ◌<◌}
use mathlib.Core.Path.{◌≡◌, refl, sym, ap, ◌∙◌}
use mathlib.Core.Bool.{true, false, not, ◌&&◌, ◌||◌}
use mathlib.Core.List.{List, ◌∷◌}
use native.Mathlib.Omega.{arith}
use lib.Dec.{eqb, ltb}
use lib.ListN.{length, drop, length-drop}
use lib.Seq.{drop-drop}
use Rattle.laws.specs.Search.{least}
use Rattle.laws.specs.Bytes.{little_at}
use Rattle.std.specs.Prelude.{Option, None}
use Rattle.std.specs.Option.{option_or}
use Rattle.std.specs.Bool.{then_some}
use Rattle.laws.proofs.Lists.{drop_head, drop-tail}
use Rattle.laws.proofs.Bytes.{little_at-drop}
use Rattle.container.specs.Chunks.{Chunk, header_at, starts_whole, chunks_from, chunks_of, bytes_of}
use Rattle.container.specs.Rules.{chunk_at, count, misplaced_json, misplaced_bin}
use Rattle.container.specs.Found.{found_in}
use Rattle.container.specs.Results.{first_wrong, survey_of}
use Rattle.container.proofs.Firsts.{first_more}
use Rattle.container.proofs.Chunks.{chunks_skip, chunks_none, chunks_more, whole_fits}

-- `n` chunks are passed, and the next starts at `at`
pub record Stage (f : List ℕ) (at n : ℕ) (json bin : Option ℕ) : Type 0 where
  pub within : at ≤ length f
  pub passed : 12 + 8 * n ≤ at
  pub known : n ≤ count f
  pub rest : drop n (chunks_of f) ≡ chunks_from 0 (drop at f)
  pub bytes : 12 + bytes_of (chunks_of f) ≡ at + bytes_of (chunks_from 0 (drop at f))
  pub the_json : json ≡ first_wrong (least (misplaced_json f) n) n
  pub the_bin : bin ≡ first_wrong (least (misplaced_bin f) n) n

-- before the first chunk
pub stage_first : (f : List ℕ) → 12 ≤ length f → Stage f 12 0 None None
unfolding chunks_of first_wrong
stage_first f l =
    record {
      within = l;
      passed = omega arith;
      known = omega arith;
      rest = chunks_skip 12 f;
      bytes = rw (chunks_skip 12 f);
      the_json = refl;
      the_bin = refl;
    }

-- the chunk that starts at `at` is chunk n
module _ (f : List ℕ) (at n : ℕ) (json bin : Option ℕ) (s : Stage f at n json bin) (whole : starts_whole (drop at f) ≡ true) where
  -- its header
  abbrev head : Chunk
  head = header_at (drop at f)

  -- what is left of the list of chunks
  more : drop n (chunks_of f) ≡ head ∷ chunks_from 0 (drop (8 + head.chunk_length) (drop at f))
  more = s.rest ∙ chunks_more (drop at f) whole

  -- there are more chunks than were passed
  below : n < count f
  below = omega (arith, length-drop n (chunks_of f), ap length more)

  -- no chunk
  abbrev none : Chunk
  none = record { chunk_length = 0; chunk_type = 0 }

  -- it is chunk n of the file
  pub chunk_at_lem : chunk_at f n ≡ head
  chunk_at_lem = drop_head (chunks_of f) n head (chunks_from 0 (drop (8 + head.chunk_length) (drop at f))) none more

  -- what follows it
  later : drop (8 + head.chunk_length) (drop at f) ≡ drop (at + 8 + head.chunk_length) f
  later =
      let e : at + (8 + head.chunk_length) ≡ at + 8 + head.chunk_length = omega arith in
      drop-drop (8 + head.chunk_length) at f ∙ ap (λ (k : ℕ). drop k f) e

  -- the chunks behind it
  next_rest : drop (n + 1) (chunks_of f) ≡ chunks_from 0 (drop (at + 8 + head.chunk_length) f)
  next_rest = drop-tail (chunks_of f) n head (chunks_from 0 (drop (8 + head.chunk_length) (drop at f))) none more ∙ ap (chunks_from 0) later

  -- and their bytes
  next_bytes : 12 + bytes_of (chunks_of f) ≡ at + 8 + head.chunk_length + bytes_of (chunks_from 0 (drop (at + 8 + head.chunk_length) f))
  unfolding bytes_of
  next_bytes = rw (← later) (omega (arith, s.bytes, ap bytes_of (chunks_more (drop at f) whole)))

  -- the chunk's two numbers, as they are read
  pub length_at : little_at f at 4 ≡ head.chunk_length
  unfolding header_at
  length_at = let e : at + 0 ≡ at = omega arith in sym (rw e at (little_at-drop f at 0 4))

  -- its chunkType
  pub type_at : little_at f (at + 4) 4 ≡ head.chunk_type
  unfolding header_at
  type_at = sym (little_at-drop f at 4 4)

  -- the stage behind it
  pub stage_next : (t : ℕ) → t ≡ head.chunk_type
      → Stage f (at + 8 + head.chunk_length) (n + 1)
      (option_or json (then_some (eqb n 0 && not (eqb t 0x4E4F534A) || ltb 0 n && eqb t 0x4E4F534A) n))
      (option_or bin (then_some (eqb t 0x004E4942 && not (eqb n 1)) n))
  stage_next t e =
      let fits = whole_fits (drop at f) whole in
      record {
        within = omega (arith, length-drop at f, s.within);
        passed = omega (arith, s.passed);
        known = omega (arith, below);
        rest = next_rest;
        bytes = next_bytes;
        the_json = rw (e, ← chunk_at_lem, s.the_json) (sym (first_more (misplaced_json f) n));
        the_bin = rw (e, ← chunk_at_lem, s.the_bin) (sym (first_more (misplaced_bin f) n));
      }

-- where no whole chunk starts the pass is at its end
pub stage_last : (f : List ℕ) (at n : ℕ) (json bin : Option ℕ) → Stage f at n json bin → starts_whole (drop at f) ≡ false
    → record { end = at; count = n; wrong_json = json; wrong_bin = bin } ≡ survey_of (found_in f)
unfolding found_in survey_of bytes_of
stage_last f at n json bin s stops =
    let none = chunks_none (drop at f) stops in
    let all : n ≡ count f = omega (arith, s.known, length-drop n (chunks_of f), ap length (s.rest ∙ none)) in
    let ends : at ≡ 12 + bytes_of (chunks_of f) = omega (arith, s.bytes, ap bytes_of none) in
    let j : json ≡ first_wrong (least (misplaced_json f) (count f)) (count f) = s.the_json ∙ ap (λ (k : ℕ). first_wrong (least (misplaced_json f) k) k) all in
    let b : bin ≡ first_wrong (least (misplaced_bin f) (count f)) (count f) = s.the_bin ∙ ap (λ (k : ℕ). first_wrong (least (misplaced_bin f) k) k) all in
    cc
