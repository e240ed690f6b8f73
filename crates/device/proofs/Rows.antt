-- Records of equal width, one after the other. Assumes nothing.
use Prim.Native.Nat.{ℕ, zero, suc, ◌+◌, ◌*◌, ◌<◌, ◌≤◌}
use mathlib.Core.Path.{◌≡◌, refl, sym, ap, ◌∙◌}
use mathlib.Core.List.{List, [], ◌∷◌, ◌++◌, append_assoc, append-nil}
use native.Mathlib.Nat.{mul-suc, mul-zero, mul-le-mul_left}
use native.Mathlib.Numerals.{add-one}
use native.Mathlib.Omega.{arith}
use lib.ListN.{get_or, length, take, drop, length-append}
use lib.Seq.{take-suc, length-take-le, take_all, take-length, drop_at, drop-drop, paste}
use borrow.Rule.Slice.PartMut.{put_mid}
use Rattle.std.proofs.lemmas.Slice.{put_mid-paste}
use Rattle.scene.specs.Steps.{written}
use Rattle.scene.proofs.Laws.{written_nil, written_more}
use Rattle.device.specs.Words.{rows}

-- Each record is k words.
module _ {A : Type 0} (f : A → List ℕ) (k : ℕ) (width : (r : A) → length (f r) ≡ k) where
  -- how many words they are
  pub rows_length : (rs : List A) → length (rows f rs) ≡ k * length rs
  unfolding rows
  rows_length [] = sym (mul-zero k)
  rows_length (r ∷ rs) =
      length-append (f r) (rows f rs) ∙ omega (arith, width r, rows_length rs, mul-suc k (length rs))

  rows_last : (rs : List A) (r : A) → rows f (rs ++ (r ∷ [])) ≡ rows f rs ++ f r
  unfolding rows
  rows_last [] r = append-nil (f r)
  rows_last (x ∷ rs) r = rw (rows_last rs r) (sym (append_assoc (f x) (rows f rs) (f r)))

  -- the first i of them, and one more
  rows_next : (rs : List A) (z : A) (i : ℕ) → i < length rs
      → rows f (take i rs) ++ f (get_or rs i z) ≡ rows f (take (i + 1) rs)
  rows_next rs z i h = rw (add-one i, take-suc rs i z h) (sym (rows_last (take i rs) (get_or rs i z)))

  -- Written into d from p on.
  module _ (d : List ℕ) (p : ℕ) (rs : List A) (room : p + k * length rs ≤ length d) where
    -- there is room for record i
    pub row_room : (i : ℕ) → i < length rs → p + k * i + k ≤ length d
    row_room i h = omega (arith, mul-le-mul_left {m = suc i} {n = length rs} k h, mul-suc k i)

    -- nothing yet
    pub rows_none : d ≡ written d p (rows f (take 0 rs))
    unfolding rows
    rows_none = sym (written_nil d p)

    -- one record more
    pub rows_more : (z : A) (i : ℕ) → i < length rs
        → written (written d p (rows f (take i rs))) (p + k * i) (f (get_or rs i z)) ≡ written d p (rows f (take (i + 1) rs))
    rows_more z i h =
        let n : length (rows f (take i rs)) ≡ k * i =
        rows_length (take i rs) ∙ ap (λ (m : ℕ). k * m) (length-take-le i rs (omega arith)) in
        rw (← n, ← rows_next rs z i h)
        (written_more d p (rows f (take i rs)) (f (get_or rs i z)) (omega (arith, n, width (get_or rs i z), row_room i h)))

    -- all of them
    pub rows_all : (i : ℕ) → length rs ≤ i → written d p (rows f (take i rs)) ≡ written d p (rows f rs)
    rows_all i h = rw (take_all i rs h)

-- all of it
pub paste_all : (d : List ℕ) (at : ℕ) (s : List ℕ) (i : ℕ) → i ≡ length s → paste d at s i ≡ written d at s
unfolding written
paste_all d at s i e = rw (e, take-length s) (append_assoc (take at d) s (drop (at + length s) d))

-- the words of a list in place of as many
pub put_written : (d : List ℕ) (at k : ℕ) (xs ys : List ℕ) → ys ≡ xs → k ≡ length xs → put_mid at k d ys ≡ written d at xs
put_written d at k xs ys e n = put_mid-paste at k d ys xs k e refl n ∙ paste_all d at xs k n

-- numbers are their own words
pub rows_numbers : (xs : List ℕ) → rows (λ n. n ∷ []) xs ≡ xs
unfolding rows
rows_numbers [] = refl
rows_numbers (x ∷ xs) = rw (rows_numbers xs)

-- record i stands at k words times i, whatever stands after the last
pub row_at : {A : Type 0} (f : A → List ℕ) (k : ℕ) → ((r : A) → length (f r) ≡ k)
    → (rs : List A) (z : A) (i : ℕ) (after : List ℕ) → i < length rs
    → drop (k * i) (rows f rs ++ after) ≡ f (get_or rs i z) ++ (rows f (drop (suc i) rs) ++ after)
unfolding rows
row_at f k width [] z i after h = absurd (omega arith)
row_at f k width (r ∷ rs) z zero after h = rw (mul-zero k) (append_assoc (f r) (rows f rs) after)
row_at f k width (r ∷ rs) z (suc i) after h =
    let e : k * suc i ≡ k + k * i = omega (arith, mul-suc k i) in
    rw (e, append_assoc (f r) (rows f rs) after, ← drop-drop (k * i) k (f r ++ (rows f rs ++ after)), drop_at (f r) (rows f rs ++ after) k (width r))
    (row_at f k width rs z i after (omega arith))
