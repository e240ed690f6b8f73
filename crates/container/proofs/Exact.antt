-- The verdict is the smallest rule that is broken with its smallest item, exactly; and where none is, the places are the chunks'.
-- Assumes nothing.
use Prim.Native.Nat.{ℕ, suc, ◌+◌, ◌-◌, ◌≤◌, ◌<◌}
use mathlib.Core.Path.{◌≡◌, refl, sym, ap, ◌∙◌, subst}
use mathlib.Core.Bool.{true, false, true≢false}
use mathlib.Core.List.{List, map}
use native.Mathlib.Omega.{arith}
use borrow.Author.Tests.{ltb-true, ltb-false, lt-ltb, le-ltb, eqb-true, eq-eqb, not-false}
use lib.Dec.{ltb, eqb}
use lib.ListN.{length, get_or, get_or-map, get_or-eq_default}
use Rattle.laws.specs.Verdict.{Smallest}
use Rattle.laws.proofs.Search.{Least, first_says, any_no}
use Rattle.laws.proofs.Tests.{by_test, or_false}
use Rattle.laws.proofs.Verdict.{smallest_unique}
use Rattle.container.specs.Chunks.{chunks_of, bytes_of}
use Rattle.container.specs.Rules.{Row, row, rows, header_rows, chunk_rows, first_broken, chunk_at, count, misplaced_json, misplaced_bin, is_bin, refused, opened, container_of}
use Rattle.container.specs.Meaning.{Broken, Starts, IsChunk, chunk_length_at, chunk_type_at, JSON, BIN}
use Rattle.container.specs.Meaning.Starts.{starts_first, starts_next}
use Rattle.container.specs.Meaning.Broken.{rule1_few, rule1_many, rule2, rule3, rule4, rule5, rule6_first, rule6_later, rule7, rule8}
use Rattle.container.specs.Exact.{Exact, Lies, DataOf}
use Rattle.container.specs.Exact.Exact.{accepted, refused_by}
use Rattle.container.specs.Exact.Lies.{with_bin, without_bin}
use Rattle.container.proofs.Reached.{chunk_there, chunk_below, chunk_length_lem, chunk_type_lem}
use Rattle.container.proofs.TwoChunks.{chunks_some}
use Rattle.container.proofs.Rows.{row_at, HoldBelow, broken_told, row_broken}

-- the rules are numbered from 1 to 8
numbered : (f : List ℕ) (n i : ℕ) → Broken f n i → (0 < n) × (n ≤ 8)
numbered f n i (rule1_few l) = (omega arith, omega arith)
numbered f n i (rule1_many l) = (omega arith, omega arith)
numbered f n i (rule2 e) = (omega arith, omega arith)
numbered f n i (rule3 e) = (omega arith, omega arith)
numbered f n i (rule4 e) = (omega arith, omega arith)
numbered f n i (rule5 s l e) = (omega arith, omega arith)
numbered f n i (rule6_first s c e) = (omega arith, omega arith)
numbered f n i (rule6_later l s c e) = (omega arith, omega arith)
numbered f n i (rule7 s c e o) = (omega arith, omega arith)
numbered f n i (rule8 s c e l) = (omega arith, omega arith)

module _ (f : List ℕ) where
  -- the place of the first row that is broken
  abbrev first : ℕ
  first = first_broken (rows f)

  -- that is what it is
  first_says_rows : Least (λ k. get_or (map (λ (r : Row). r.broken) (rows f)) k false) 8 first
  unfolding header_rows chunk_rows
  first_says_rows = first_says (map (λ (r : Row). r.broken) (rows f))

  -- the rows before it hold
  holds_below : HoldBelow f first
  holds_below j l = sym (get_or-map (λ (r : Row). r.broken) (rows f) j (row false 0)) ∙ first_says_rows.fails j l

  -- it is broken
  first_broken_lem : first < 8 → (row_at f first).broken ≡ true
  first_broken_lem l = sym (get_or-map (λ (r : Row). r.broken) (rows f) first (row false 0)) ∙ first_says_rows.holds l

  -- its item, as the definition takes it
  first_item_lem : get_or (map (λ (r : Row). r.item) (rows f)) first 0 ≡ (row_at f first).item
  first_item_lem = get_or-map (λ (r : Row). r.item) (rows f) first (row false 0)

  -- no rule before the first broken row is broken
  none_before : (n i : ℕ) → n ≤ first → Broken f n i → ⊥
  none_before n i l b =
      let t = broken_told f n i b (λ j z. holds_below j (omega arith)) in
      true≢false (sym t.broken ∙ holds_below (n - 1) (omega (arith, numbered f n i b)))

  -- so it is the smallest rule broken, with its smallest item
  smallest : first < 8 → Smallest (Broken f) (suc first) (row_at f first).item
  smallest l =
      record {
        broken = row_broken f first l holds_below (first_broken_lem l);
        rules = λ m j z b. none_before m j (omega arith) b;
        items = λ j z b. let t = broken_told f (suc first) j b (λ k y. holds_below k (omega arith)) in
            let e : suc first - 1 ≡ first = omega arith in
            omega (arith, z, rw e at t.item);
      }

  -- the answer then
  refuses : first < 8 → container_of f ≡ refused (suc first) (row_at f first).item
  unfolding container_of
  refuses l =
      let e : 1 + first ≡ suc first = omega arith in
      rw (lt-ltb first 8 l, first_item_lem, e)

  -- the answer where no row is broken
  accepts : 8 ≤ first → container_of f ≡ opened f
  unfolding container_of
  accepts l = rw (le-ltb first 8 l)

  -- no rule is broken then
  none_broken : 8 ≤ first → (n i : ℕ) → Broken f n i → ⊥
  none_broken l n i b = none_before n i (omega (arith, numbered f n i b)) b

-- the first two places
starts_at_first : (f : List ℕ) (at : ℕ) → Starts f 0 at → at ≡ 12
starts_at_first f at starts_first = refl

-- chunk 1 starts behind the data of chunk 0
starts_at_second : (f : List ℕ) (at : ℕ) → Starts f 1 at → at ≡ 20 + chunk_length_at f 12
starts_at_second f at (starts_next {at = p} s c) = rw (starts_at_first f p s)

module _ (f : List ℕ) (l : 8 ≤ first_broken (rows f)) where
  -- every row holds
  row_holds : (k : ℕ) → k < 8 → (row_at f k).broken ≡ false
  row_holds k h = holds_below f k (omega arith)

  -- rule 1
  long : 20 ≤ length f
  unfolding header_rows chunk_rows
  long = ltb-false (length f) 20 (or_false (ltb (length f) 20) (ltb 16777216 (length f)) (row_holds 0 (omega arith))).0

  -- rule 5
  filled : 12 + bytes_of (chunks_of f) ≡ length f
  unfolding header_rows chunk_rows
  filled = eqb-true _ _ (not-false _ (row_holds 4 (omega arith)))

  -- the header is there
  g : 12 ≤ length f
  g = omega (arith, long)

  -- chunk 0 is JSON, and its data are where the answer says
  json : DataOf f 0 JSON 20 (chunk_at f 0).chunk_length
  unfolding header_rows chunk_rows
  json =
      let some = chunks_some f long filled in
      let c = chunk_there f g 0 some in
      let o = or_false _ _ (any_no (misplaced_json f) (count f) (row_holds 5 (omega arith)) 0 some) in
      record {
        at = c.at;
        starts = c.starts;
        chunk = c.is;
        typed = sym (chunk_type_lem f g 0 c.at c.starts c.is) ∙ eqb-true _ _ (not-false _ o.0);
        place = omega (arith, starts_at_first f c.at c.starts);
        bytes = chunk_length_lem f g 0 c.at c.starts c.is;
      }

  -- a chunk 1 that is BIN, and its data
  bin : is_bin (chunk_at f 1) ≡ true → DataOf f 1 BIN (28 + (chunk_at f 0).chunk_length) (chunk_at f 1).chunk_length
  bin t =
      let more = by_test (ltb 1 (count f)) (λ u. ltb-true 1 (count f) u)
      (λ u. absurd (true≢false (sym t ∙ ap is_bin (get_or-eq_default (chunks_of f) (record { chunk_length = 0; chunk_type = 0 }) {n = 1} (ltb-false 1 (count f) u))))) in
      let c = chunk_there f g 1 more in
      let a = starts_at_first f json.at json.starts in
      let z = subst (λ (k : ℕ). (chunk_at f 0).chunk_length ≡ chunk_length_at f k) a json.bytes in
      record {
        at = c.at;
        starts = c.starts;
        chunk = c.is;
        typed = sym (chunk_type_lem f g 1 c.at c.starts c.is) ∙ eqb-true _ _ t;
        place = omega (arith, starts_at_second f c.at c.starts, z);
        bytes = chunk_length_lem f g 1 c.at c.starts c.is;
      }

  -- where chunk 1 is not BIN no chunk is
  no_bin : is_bin (chunk_at f 1) ≡ false → (i at : ℕ) → Starts f i at → IsChunk f at → chunk_type_at f at ≡ BIN → ⊥
  unfolding header_rows chunk_rows
  no_bin t i at s c e =
      let is : is_bin (chunk_at f i) ≡ true = eq-eqb _ _ (chunk_type_lem f g i at s c ∙ e) in
      let m = any_no (misplaced_bin f) (count f) (row_holds 6 (omega arith)) i (chunk_below f g i at s c) in
      let one : i ≡ 1 = by_test (eqb i 1) (λ u. eqb-true i 1 u) (λ u. absurd (true≢false (rw (is, u) at m))) in
      true≢false (sym is ∙ ap (λ (k : ℕ). is_bin (chunk_at f k)) one ∙ t)

  -- the places are the chunks'
  lies : Lies f (opened f)
  unfolding opened
  lies = by_test (is_bin (chunk_at f 1)) (λ t. rw t (with_bin json (bin t))) (λ t. rw t (without_bin json (no_bin t)))

-- the answer is exact, ..
pub container_exact : (f : List ℕ) → Exact f (container_of f)
container_exact f =
    by_test (ltb (first_broken (rows f)) 8)
    (λ t. let l = ltb-true _ _ t in rw (refuses f l) (refused_by (smallest f l)))
    (λ t. let l = ltb-false _ _ t in rw (accepts f l) (accepted (none_broken f l) (lies f l)))

-- .. a rule and an item that are the smallest broken are the answer, ..
pub container_refuses : (f : List ℕ) (n i : ℕ) → Smallest (Broken f) n i → container_of f ≡ refused n i
container_refuses f n i s =
    by_test (ltb (first_broken (rows f)) 8)
    (λ t. let l = ltb-true _ _ t in
    let e = smallest_unique (Broken f) (suc (first_broken (rows f))) (row_at f (first_broken (rows f))).item n i (smallest f l) s in
    refuses f l ∙ rw (e.0, e.1))
    (λ t. absurd (none_broken f (ltb-false _ _ t) n i s.broken))

-- .. and where none is broken the answer's number is 0
pub container_accepts : (f : List ℕ) → ((n i : ℕ) → Broken f n i → ⊥) → container_of f ≡ opened f
container_accepts f none =
    by_test (ltb (first_broken (rows f)) 8)
    (λ t. let l = ltb-true _ _ t in absurd (none _ _ (smallest f l).broken))
    (λ t. accepts f (ltb-false _ _ t))
