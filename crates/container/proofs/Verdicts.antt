-- What the container's definition answers, by the first row that is broken.
-- Assumes nothing.
use Prim.Native.Nat.{ℕ, ◌+◌, ◌≤◌, ◌<◌}
use mathlib.Core.Path.{◌≡◌}
use mathlib.Core.Bool.{false, not, ◌||◌}
use mathlib.Core.List.{List, map}
use native.Mathlib.Omega.{arith}
use borrow.Author.Tests.{ltb-false, lt-ltb, le-ltb, eq-eqb, ne_eqb}
use lib.Dec.{ltb, eqb}
use lib.ListN.{length}
use Rattle.laws.specs.Bytes.{little_at}
use Rattle.laws.specs.Search.{least}
use Rattle.laws.proofs.Search.{first_says}
use Rattle.laws.proofs.Tests.{by_test, or_false}
use Rattle.container.specs.Chunks.{chunks_of, bytes_of}
use Rattle.container.specs.Rules.{chunk_at, count, misplaced_json, misplaced_bin, header_rows, chunk_rows, first_broken, refused, opened, container_of}

-- rules 1 to 4 hold
pub record HeaderHolds (f : List ℕ) : Type 0 where
  pub size : (ltb (length f) 20 || ltb 16777216 (length f)) ≡ false
  pub magic : not (eqb (little_at f 0 4) 0x46546C67) ≡ false
  pub version : not (eqb (little_at f 4 4) 2) ≡ false
  pub whole : not (eqb (little_at f 8 4) (length f)) ≡ false

-- no header row is broken
pub header_holds : (f : List ℕ) → 5 ≤ 1 + first_broken (header_rows f) → HeaderHolds f
unfolding header_rows
header_holds f l =
    let s = first_says (map (λ r. r.broken) (header_rows f)) in
    record { size = s.fails 0 (omega arith); magic = s.fails 1 (omega arith); version = s.fails 2 (omega arith); whole = s.fails 3 (omega arith) }

-- rule 1 as bounds
pub size_bounds : (f : List ℕ) → HeaderHolds f → (20 ≤ length f) × (length f ≤ 16777216)
size_bounds f h =
    let o = or_false (ltb (length f) 20) (ltb 16777216 (length f)) h.size in
    (ltb-false (length f) 20 o.0, ltb-false 16777216 (length f) o.1)

-- one of the rules 1 to 4 is broken
pub header_refuses : (f : List ℕ) (n : ℕ) → n ≡ 1 + first_broken (header_rows f) → n < 5 → refused n 0 ≡ container_of f
unfolding header_rows container_of
header_refuses f n e l =
    by_test (ltb (length f) 20 || ltb 16777216 (length f))
    (λ a. rw (e, a))
    (λ a. by_test (eqb (little_at f 0 4) 0x46546C67)
    (λ b. by_test (eqb (little_at f 4 4) 2)
    (λ c. by_test (eqb (little_at f 8 4) (length f))
    (λ d. absurd (omega (arith, l, rw (a, b, c, d) at e)))
    (λ d. rw (e, a, b, c, d)))
    (λ c. rw (e, a, b, c)))
    (λ b. rw (e, a, b)))

-- rules 1 to 4 hold, and one of 5 to 8 is broken, or none
module _ (f : List ℕ) (h : HeaderHolds f) where
  -- rule 5
  pub rule5 : (12 + bytes_of (chunks_of f) ≡ length f → ⊥) → refused 5 (count f) ≡ container_of f
  unfolding header_rows chunk_rows container_of
  rule5 a = rw (h.size, h.magic, h.version, h.whole, ne_eqb _ _ a)

  module _ (filled : 12 + bytes_of (chunks_of f) ≡ length f) where
    -- rule 6
    pub rule6 : least (misplaced_json f) (count f) < count f → refused 6 (least (misplaced_json f) (count f)) ≡ container_of f
    unfolding header_rows chunk_rows container_of
    rule6 a = rw (h.size, h.magic, h.version, h.whole, eq-eqb _ _ filled, lt-ltb _ _ a)

    module _ (right : count f ≤ least (misplaced_json f) (count f)) where
      -- rule 7
      pub rule7 : least (misplaced_bin f) (count f) < count f → refused 7 (least (misplaced_bin f) (count f)) ≡ container_of f
      unfolding header_rows chunk_rows container_of
      rule7 a = rw (h.size, h.magic, h.version, h.whole, eq-eqb _ _ filled, le-ltb _ _ right, lt-ltb _ _ a)

      module _ (placed : count f ≤ least (misplaced_bin f) (count f)) where
        -- rule 8
        pub rule8 : 65536 < (chunk_at f 0).chunk_length → refused 8 0 ≡ container_of f
        unfolding header_rows chunk_rows container_of
        rule8 a = rw (h.size, h.magic, h.version, h.whole, eq-eqb _ _ filled, le-ltb _ _ right, le-ltb _ _ placed, lt-ltb _ _ a)

        -- none
        pub none_broken : (chunk_at f 0).chunk_length ≤ 65536 → opened f ≡ container_of f
        unfolding header_rows chunk_rows container_of
        none_broken a = rw (h.size, h.magic, h.version, h.whole, eq-eqb _ _ filled, le-ltb _ _ right, le-ltb _ _ placed, le-ltb _ _ a)
