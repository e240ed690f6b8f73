-- The chunks of a list by what it starts with.
-- Assumes nothing.
use Prim.Native.Nat.{ℕ, zero, suc, ◌+◌, ◌-◌, ◌%◌, ◌≤◌, ◌<◌}
use mathlib.Core.Path.{◌≡◌, refl, ap}
use mathlib.Core.Bool.{Bool, true, false, ◌&&◌}
use mathlib.Core.List.{List, [], ◌∷◌}
use native.Mathlib.Omega.{arith}
use borrow.Author.Tests.{leb-true, leb-false, le-leb, lt-leb}
use lib.Dec.{leb, eqb}
use lib.ListN.{length, drop, length-drop}
use lib.Seq.{drop-nil}
use Rattle.laws.specs.Bytes.{little_at}
use Rattle.laws.proofs.Bytes.{little_at-drop}
use Rattle.laws.proofs.Tests.{by_test, and-true}
use Rattle.container.specs.Chunks.{Chunk, header_at, starts_whole, chunks_from}

-- the bytes of the chunk before are passed over
pub chunks_skip : (k : ℕ) (w : List ℕ) → chunks_from k w ≡ chunks_from 0 (drop k w)
unfolding chunks_from
chunks_skip k [] = rw (drop-nil {A = ℕ} k)
chunks_skip zero (b ∷ w) = refl
chunks_skip (suc k) (b ∷ w) = chunks_skip k w

-- what a whole chunk at the front says of the length
pub whole_fits : (w : List ℕ) → starts_whole w ≡ true → (8 ≤ length w) × (8 + (header_at w).chunk_length ≤ length w)
unfolding starts_whole
whole_fits w e =
    let a = and-true (leb 8 (length w) && eqb ((header_at w).chunk_length % 4) 0) (leb (8 + (header_at w).chunk_length) (length w)) e in
    (leb-true _ _ (and-true (leb 8 (length w)) (eqb ((header_at w).chunk_length % 4) 0) a.0).0, leb-true _ _ a.1)

-- where no whole chunk starts there is none
pub chunks_none : (w : List ℕ) → starts_whole w ≡ false → chunks_from 0 w ≡ []
unfolding chunks_from
chunks_none [] e = refl
chunks_none (b ∷ w) e = rw e

-- a whole chunk at the front is the first
pub chunks_more : (w : List ℕ) → starts_whole w ≡ true
    → chunks_from 0 w ≡ header_at w ∷ chunks_from 0 (drop (8 + (header_at w).chunk_length) w)
unfolding chunks_from
chunks_more [] e = absurd (omega (arith, whole_fits [] e))
chunks_more (b ∷ w) e =
    let n : 8 + (header_at (b ∷ w)).chunk_length ≡ suc (7 + (header_at (b ∷ w)).chunk_length) = omega arith in
    rw (e, n) (ap (λ (cs : List Chunk). header_at (b ∷ w) ∷ cs) (chunks_skip (7 + (header_at (b ∷ w)).chunk_length) w))

-- too short for a header
pub whole_short : (f : List ℕ) (at : ℕ) → length f - at < 8 → starts_whole (drop at f) ≡ false
unfolding starts_whole
whole_short f at l = let short : length (drop at f) < 8 = omega (arith, length-drop at f) in rw (lt-leb 8 (length (drop at f)) short)

-- with room for a header, by its first number
pub whole_long : (f : List ℕ) (at : ℕ) → 8 ≤ length f - at
    → starts_whole (drop at f) ≡ (eqb (little_at f at 4 % 4) 0 && leb (little_at f at 4) (length f - at - 8))
unfolding starts_whole header_at
whole_long f at l =
    let e : at + 0 ≡ at = omega arith in
    rw (little_at-drop f at 0 4, e, length-drop at f, le-leb 8 (length f - at) l)
    (ap (λ (b : Bool). eqb (little_at f at 4 % 4) 0 && b)
    (by_test (leb (little_at f at 4) (length f - at - 8))
    (λ t. rw t (le-leb (8 + little_at f at 4) (length f - at) (omega (arith, leb-true (little_at f at 4) (length f - at - 8) t))))
    (λ t. rw t (lt-leb (8 + little_at f at 4) (length f - at) (omega (arith, leb-false (little_at f at 4) (length f - at - 8) t))))))

-- a whole chunk ends within the file
pub whole_within : (f : List ℕ) (at : ℕ) → at ≤ length f → starts_whole (drop at f) ≡ true
    → at + 8 + (header_at (drop at f)).chunk_length ≤ length f
whole_within f at l e = omega (arith, whole_fits (drop at f) e, length-drop at f)
