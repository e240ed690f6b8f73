-- Each row of `rows` against its rule in the paper's words: a row that is broken gives the rule broken with the row's item, and a rule that
-- is broken, where all smaller rows hold, gives the row broken with an item that is no larger.
-- Assumes nothing.
use Prim.Native.Nat.{ℕ, zero, suc, ◌+◌, ◌-◌, ◌≤◌, ◌<◌}
use mathlib.Core.Path.{◌≡◌, sym, ap, ◌∙◌, subst}
use mathlib.Core.Bool.{Bool, true, false, not, ◌&&◌, ◌||◌, true≢false}
use mathlib.Core.List.{List}
use mathlib.Core.Logic.{◌⊎◌, inl, inr, ⊎_elim}
use native.Mathlib.Omega.{arith}
use borrow.Author.Tests.{ltb-true, ltb-false, lt-ltb, le-ltb, eqb-true, eqb-false, eq-eqb, ne_eqb, not-true, not-false}
use lib.Dec.{ltb, eqb}
use lib.ListN.{length, get_or, get_or-eq_default}
use Rattle.laws.specs.Search.{least, any_below}
use Rattle.laws.proofs.Search.{least_says, any_yes, any_no, any_at}
use Rattle.laws.proofs.Tests.{by_test, and-true, or_false}
use Rattle.container.specs.Chunks.{Chunk, chunks_of, bytes_of}
use Rattle.container.specs.Rules.{Row, row, rows, header_rows, chunk_rows, chunk_at, count, is_bin, misplaced_json, misplaced_bin}
use Rattle.container.specs.Meaning.{Broken, Starts, IsChunk, chunk_type_at, JSON, BIN}
use Rattle.container.specs.Meaning.Broken.{rule1_few, rule1_many, rule2, rule3, rule4, rule5, rule6_first, rule6_later, rule7, rule8}
use Rattle.container.proofs.Reached.{reached, place, chunk_there, chunk_below, chunk_length_lem, chunk_type_lem, stop_count, stop_bytes, last_none}

-- row k, for rule k + 1
abbrev pub row_at : List ℕ → ℕ → Row
row_at f k = get_or (rows f) k (row false 0)

-- the rows before row k hold
abbrev pub HoldBelow : List ℕ → ℕ → Type 0
HoldBelow f k = (j : ℕ) → j < k → (row_at f j).broken ≡ false

-- a rule that is broken, where all smaller rows hold
pub record Told (f : List ℕ) (k i : ℕ) : Type 0 where
  pub broken : (row_at f k).broken ≡ true
  pub item : (row_at f k).item ≤ i

module _ (f : List ℕ) where
  -- with rule 1 there is room for the header
  long : HoldBelow f 1 → 12 ≤ length f
  unfolding header_rows
  long h = omega (arith, ltb-false (length f) 20 (or_false (ltb (length f) 20) (ltb 16777216 (length f)) (h 0 (omega arith))).0)

  -- the test of rule 6 at a chunk
  json_first : (t : ℕ) → (t ≡ JSON → ⊥) → (eqb 0 0 && not (eqb t JSON) || ltb 0 0 && eqb t JSON) ≡ true
  json_first t ne = rw (ne_eqb t JSON ne)

  -- a later chunk that is JSON
  json_later : (i t : ℕ) → 0 < i → t ≡ JSON → (eqb i 0 && not (eqb t JSON) || ltb 0 i && eqb t JSON) ≡ true
  json_later i t l e = rw (ne_eqb i 0 (λ z. omega arith), lt-ltb 0 i l, eq-eqb t JSON e)

  -- the least number that passes is at most one that does
  from_test : (p : ℕ → Bool) (n i : ℕ) → i < n → p i ≡ true → least p n ≤ i
  from_test p n i l e =
      by_test (ltb i (least p n)) (λ t. absurd (true≢false (sym e ∙ (least_says p n).fails i (ltb-true i (least p n) t)))) (λ t. ltb-false i (least p n) t)

  -- a BIN chunk that is not chunk 1
  bin_elsewhere : (i t : ℕ) → t ≡ BIN → (i ≡ 1 → ⊥) → (eqb t BIN && not (eqb i 1)) ≡ true
  bin_elsewhere i t e o = rw (eq-eqb t BIN e, ne_eqb i 1 o)

  -- at most and not equal is less
  not_equal_less : (a b : ℕ) → a ≤ b → (a ≡ b → ⊥) → a < b
  not_equal_less a b l e = by_test (ltb a b) (λ t. ltb-true a b t) (λ t. absurd (e (omega (arith, ltb-false a b t))))

  -- a chunk that breaks a test
  chunk_told : (p : ℕ → Bool) (i : ℕ) → i < count f → p i ≡ true → (any_below p (count f) ≡ true) × (least p (count f) ≤ i)
  chunk_told p i l e = (any_yes p (count f) i l e, from_test p (count f) i l e)

  -- with rule 6 a JSON chunk is chunk 0
  json_is_first : 12 ≤ length f → HoldBelow f 6 → (i at : ℕ) → Starts f i at → IsChunk f at → chunk_type_at f at ≡ JSON → i ≡ 0
  unfolding header_rows chunk_rows
  json_is_first g h i at s c e =
      by_test (ltb 0 i)
      (λ t. absurd (true≢false
      (sym (json_later i (chunk_at f i).chunk_type (ltb-true 0 i t) (chunk_type_lem f g i at s c ∙ e))
      ∙ any_no (misplaced_json f) (count f) (h 5 (omega arith)) i (chunk_below f g i at s c))))
      (λ t. omega (arith, ltb-false 0 i t))

  -- a rule that is broken breaks its row
  pub broken_told : (n i : ℕ) → Broken f n i → HoldBelow f (n - 1) → Told f (n - 1) i
  unfolding header_rows chunk_rows
  broken_told n i (rule1_few l) h = record { broken = rw (lt-ltb _ _ l); item = omega arith }
  broken_told n i (rule1_many l) h =
      record { broken = rw (lt-ltb 16777216 (length f) l, le-ltb (length f) 20 (omega arith)); item = omega arith }
  broken_told n i (rule2 e) h = record { broken = rw (ne_eqb _ _ e); item = omega arith }
  broken_told n i (rule3 e) h = record { broken = rw (ne_eqb _ _ e); item = omega arith }
  broken_told n i (rule4 e) h = record { broken = rw (ne_eqb _ _ e); item = omega arith }
  broken_told n i (rule5 {at = at} s l e) h =
      let g = long (λ j z. h j (omega arith)) in
      let ne : (12 + bytes_of (chunks_of f) ≡ length f → ⊥) = λ z. omega (arith, stop_bytes f g i at s e) in
      record { broken = rw (ne_eqb _ _ ne); item = omega (arith, stop_count f g i at s e) }
  broken_told n i (rule6_first {at = at} s c e) h =
      let g = long (λ j z. h j (omega arith)) in
      let t = chunk_told (misplaced_json f) 0 (chunk_below f g 0 at s c)
      (json_first (chunk_at f 0).chunk_type (λ z. e (sym (chunk_type_lem f g 0 at s c) ∙ z))) in
      record { broken = t.0; item = t.1 }
  broken_told n i (rule6_later {at = at} l s c e) h =
      let g = long (λ j z. h j (omega arith)) in
      let t = chunk_told (misplaced_json f) i (chunk_below f g i at s c)
      (json_later i (chunk_at f i).chunk_type l (chunk_type_lem f g i at s c ∙ e)) in
      record { broken = t.0; item = t.1 }
  broken_told n i (rule7 {at = at} s c e o) h =
      let g = long (λ j z. h j (omega arith)) in
      let t = chunk_told (misplaced_bin f) i (chunk_below f g i at s c)
      (bin_elsewhere i (chunk_at f i).chunk_type (chunk_type_lem f g i at s c ∙ e) o) in
      record { broken = t.0; item = t.1 }
  broken_told n i (rule8 {i = j} {at = at} s c e l) h =
      let g = long (λ j z. h j (omega arith)) in
      let z = json_is_first g (λ j z. h j (omega arith)) j at s c e in
      let big = subst (λ (k : ℕ). 65536 < (chunk_at f k).chunk_length) z (omega (arith, chunk_length_lem f g j at s c)) in
      record { broken = lt-ltb _ _ big; item = omega arith }

  -- what a test of rule 6 or 7 says
  json_told : (i t : ℕ) → (eqb i 0 && not (eqb t JSON) || ltb 0 i && eqb t JSON) ≡ true → ((i ≡ 0) × (t ≡ JSON → ⊥)) ⊎ ((0 < i) × (t ≡ JSON))
  json_told i t e =
      by_test (eqb i 0)
      (λ a. let z = eqb-true i 0 a in
      by_test (eqb t JSON)
      (λ b. absurd (true≢false (sym e ∙ rw (a, b, le-ltb 0 i (omega arith)))))
      (λ b. inl (z, eqb-false t JSON b)))
      (λ a. let z = eqb-false i 0 a in
      by_test (eqb t JSON)
      (λ b. inr (omega arith, eqb-true t JSON b))
      (λ b. absurd (true≢false (sym e ∙ rw (a, b, lt-ltb 0 i (omega arith))))))

  -- rule 6 at chunk 0
  six_first : (i at : ℕ) → i ≡ 0 → Starts f i at → IsChunk f at → (chunk_type_at f at ≡ JSON → ⊥) → Broken f 6 i
  six_first i at z =
      subst (λ (k : ℕ). Starts f k at → IsChunk f at → (chunk_type_at f at ≡ JSON → ⊥) → Broken f 6 k) (sym z) (λ s c e. rule6_first s c e)

  module _ (g : 12 ≤ length f) where
    -- row 6 that is broken breaks rule 6
    six : any_below (misplaced_json f) (count f) ≡ true → Broken f 6 (least (misplaced_json f) (count f))
    six e =
        let i = least (misplaced_json f) (count f) in
        let a = any_at (misplaced_json f) (count f) e in
        let c = chunk_there f g i a.0 in
        let t = chunk_type_lem f g i c.at c.starts c.is in
        ⊎_elim
        (λ w. six_first i c.at w.0 c.starts c.is (λ z. w.1 (t ∙ z)))
        (λ w. rule6_later w.0 c.starts c.is (sym t ∙ w.1))
        (json_told i (chunk_at f i).chunk_type a.1)

    -- row 7
    seven : any_below (misplaced_bin f) (count f) ≡ true → Broken f 7 (least (misplaced_bin f) (count f))
    seven e =
        let i = least (misplaced_bin f) (count f) in
        let a = any_at (misplaced_bin f) (count f) e in
        let c = chunk_there f g i a.0 in
        let t = chunk_type_lem f g i c.at c.starts c.is in
        let b = and-true (is_bin (chunk_at f i)) (not (eqb i 1)) a.1 in
        rule7 c.starts c.is (sym t ∙ eqb-true _ _ b.0) (eqb-false i 1 (not-true _ b.1))

    -- row 5
    five : (12 + bytes_of (chunks_of f) ≡ length f → ⊥) → Broken f 5 (count f)
    five e =
        let p = place f g (count f) (omega arith) in
        let at = stop_bytes f g (count f) p.0 p.1 (last_none f g p.0 p.1) in
        let inside = (reached f (count f) p.0 g p.1).stage.within in
        let less : p.0 < length f = not_equal_less p.0 (length f) inside (λ z. e (at ∙ z)) in
        rule5 p.1 less (last_none f g p.0 p.1)

    -- chunk 0 is there where the chunks fill a file of 20 bytes, and is JSON where rule 6 holds
    eight : HoldBelow f 7 → 65536 < (chunk_at f 0).chunk_length → Broken f 8 0
    unfolding header_rows chunk_rows
    eight h l =
        let some = by_test (ltb 0 (count f)) (λ t. ltb-true 0 (count f) t)
        (λ t. absurd (omega (arith, l, ap (λ (c : Chunk). c.chunk_length) (get_or-eq_default (chunks_of f) (record { chunk_length = 0; chunk_type = 0 }) {n = 0} (ltb-false 0 (count f) t))))) in
        let c = chunk_there f g 0 some in
        let t = chunk_type_lem f g 0 c.at c.starts c.is in
        let o = or_false _ _ (any_no (misplaced_json f) (count f) (h 5 (omega arith)) 0 some) in
        rule8 c.starts c.is (sym t ∙ eqb-true _ _ (not-false _ o.0)) (omega (arith, l, chunk_length_lem f g 0 c.at c.starts c.is))

  -- a row that is broken breaks its rule, with its item
  pub row_broken : (k : ℕ) → k < 8 → HoldBelow f k → (row_at f k).broken ≡ true → Broken f (suc k) (row_at f k).item
  unfolding header_rows chunk_rows
  row_broken zero l h e =
      by_test (ltb (length f) 20) (λ t. rule1_few (ltb-true _ _ t))
      (λ t. by_test (ltb 16777216 (length f)) (λ u. rule1_many (ltb-true _ _ u)) (λ u. absurd (true≢false (sym e ∙ rw (t, u)))))
  row_broken (suc zero) l h e = rule2 (eqb-false _ _ (not-true _ e))
  row_broken (suc (suc zero)) l h e = rule3 (eqb-false _ _ (not-true _ e))
  row_broken (suc (suc (suc zero))) l h e = rule4 (eqb-false _ _ (not-true _ e))
  row_broken (suc (suc (suc (suc zero)))) l h e = five (long (λ j z. h j (omega arith))) (eqb-false _ _ (not-true _ e))
  row_broken (suc (suc (suc (suc (suc zero))))) l h e = six (long (λ j z. h j (omega arith))) e
  row_broken (suc (suc (suc (suc (suc (suc zero)))))) l h e = seven (long (λ j z. h j (omega arith))) e
  row_broken (suc (suc (suc (suc (suc (suc (suc zero))))))) l h e = eight (long (λ j z. h j (omega arith))) h (ltb-true _ _ e)
  row_broken (suc (suc (suc (suc (suc (suc (suc (suc k)))))))) l h e = absurd (omega arith)
