-- Laws of the depth count, at positions of the input s.
-- Assumes nothing.
use Prim.Native.Nat.{ℕ, zero, suc, ◌+◌, ◌-◌, ◌≤◌, ◌<◌}
use native.Mathlib.Omega.{arith}
use native.Mathlib.Numerals.{add-one, sub-one}
use mathlib.Core.Path.{◌≡◌, refl}
use mathlib.Core.Bool.{Bool, true, false, ◌||◌}
use mathlib.Core.List.{List, [], ◌∷◌}
use mathlib.Core.Logic.{⊎_elim}
use native.Mathlib.Decide.{dec_lt}
use borrow.Author.Tests.{eqb-true, le-ltb, lt-ltb, ltb-true, ltb-false}
use lib.Dec.{eqb, ltb}
use lib.ListN.{length, drop, take, get_or, length-drop}
use lib.Seq.{drop-drop, take_all}
use Rattle.std.proofs.Common.{Ok, Err}
use Rattle.json_text.specs.Depth.{Mode, kind, turn, move, peak, to_pass, depth_of}
use Rattle.json_text.specs.Depth.Mode.{outside, inside, hidden}
use Rattle.json_text.specs.Depth.Kind.{slash, code}
use Rattle.json_text.specs.Depth.Bracket.{neither}
use Rattle.json_text.specs.Strings.{to_close}
use Rattle.json_text.specs.Check.{Counted}
use Rattle.json_text.specs.Check.Counted.{counted_within, counted_passes}
use Rattle.laws.proofs.Tests.{by_test}
use Rattle.json_text.proofs.Marks.{split, past, close_le, close_mark, kind_opens, kind_closes, kind_other}

-- behind a backslash in a string, or not
abbrev pub mode : Bool → Mode
mode true = hidden
mode false = inside

-- over the characters of a string
along : (n d : ℕ) (h : Bool) (w : List ℕ) → d ≤ n →
    to_pass n (mode h) d w ≡ to_close h w + to_pass n inside d (drop (to_close h w) w)
unfolding to_pass to_close
along n d true [] l = refl
along n d false [] l = refl
along n d true (b ∷ w) l = let k = along n d false w l in rw (le-ltb n d l) (omega arith)
along n d false (b ∷ w) l =
    by_test (eqb b 0x22)
    (λ e. let k = eqb-true b 0x22 e in rw k (omega arith))
    (λ e. by_test (eqb b 0x5c)
    (λ f. let k = along n d true w l in rw (e, f, le-ltb n d l) (omega arith))
    (λ f. let k = along n d false w l in rw (e, f, le-ltb n d l) (omega arith)))

-- to the mark that closes it, and past it; or to the end
inner : (n d : ℕ) (w : List ℕ) → d ≤ n → to_close false w < length w →
    to_pass n inside d w ≡ suc (to_close false w) + to_pass n outside d (drop (suc (to_close false w)) w)
unfolding to_pass
inner n d w l m =
    let k : to_pass n inside d (drop (to_close false w) w) ≡ suc
    (to_pass n outside d (drop (suc (to_close false w)) w)) = rw (close_mark false w m, le-ltb n d l) in
    omega (arith, along n d false w l, k)

-- no mark closes it
inner_end : (n d : ℕ) (w : List ℕ) → d ≤ n → length w ≤ to_close false w → to_pass n inside d w ≡ length w
unfolding to_pass
inner_end n d w l m =
    let k : to_pass n inside d (drop (to_close false w) w) ≡ 0 = rw (past w (to_close false w) m) in
    omega (arith, along n d false w l, k, close_le false w)

module _ (n d : ℕ) (s : List ℕ) (i : ℕ) (l : i < length s) (m : d ≤ n) where
  -- a mark opens a string
  mark_turn : get_or s i 0 ≡ 0x22 → to_pass n outside d (drop i s) ≡ suc (to_pass n inside d (drop (i + 1) s))
  unfolding to_pass
  mark_turn b = rw (split s i l, b, le-ltb n d m)

  -- over a whole string
  pub string_turn : (e : ℕ) → get_or s i 0 ≡ 0x22 → e ≡ i + 1 + to_close false (drop (i + 1) s) → e < length s →
      i + to_pass n outside d (drop i s) ≡ e + 1 + to_pass n outside d (drop (e + 1) s)
  string_turn e b k g =
      let t : to_close false (drop (i + 1) s) < length (drop (i + 1) s) = omega (arith, length-drop (i + 1) s) in
      let q : i + 1 + suc (to_close false (drop (i + 1) s)) ≡ e + 1 = omega arith in
      let r : drop (suc (to_close false (drop (i + 1) s))) (drop (i + 1) s) ≡ drop (e + 1) s = rw
      (drop-drop (suc (to_close false (drop (i + 1) s))) (i + 1) s, q) in
      let u : to_pass n inside d (drop (i + 1) s) ≡ suc (to_close false (drop (i + 1) s)) + to_pass n outside d
      (drop (e + 1) s) = rw r at (inner n d (drop (i + 1) s) m t) in
      omega (arith, mark_turn b, u)

  -- over a string that nothing closes
  pub string_end : (e : ℕ) → get_or s i 0 ≡ 0x22 → e ≡ i + 1 + to_close false (drop (i + 1) s) → length s ≤ e →
      i + to_pass n outside d (drop i s) ≡ length s
  string_end e b k g =
      omega (
        arith,
        mark_turn b,
        length-drop (i + 1) s,
        inner_end n d (drop (i + 1) s) m
            (omega (arith, length-drop (i + 1) s)),
      )

  -- over a bracket that opens
  pub open_turn : (eqb (get_or s i 0) 0x5b || eqb (get_or s i 0) 0x7b) ≡ true → d < n →
      to_pass n outside d (drop i s) ≡ suc (to_pass n outside (d + 1) (drop (i + 1) s))
  unfolding to_pass
  open_turn e g = rw (split s i l, kind_opens (get_or s i 0) e, add-one d, le-ltb n (suc d) g)

  -- the bracket with which the count passes n
  pub open_stop : (eqb (get_or s i 0) 0x5b || eqb (get_or s i 0) 0x7b) ≡ true → d ≡ n → to_pass n outside d (drop i s) ≡ 0
  unfolding to_pass
  open_stop e g = rw (split s i l, kind_opens (get_or s i 0) e, lt-ltb n (suc d) (omega arith))

  -- over a bracket that closes
  pub close_turn : (eqb (get_or s i 0) 0x5d || eqb (get_or s i 0) 0x7d) ≡ true →
      to_pass n outside d (drop i s) ≡ suc (to_pass n outside (d - 1) (drop (i + 1) s))
  unfolding to_pass
  close_turn e = rw (split s i l, kind_closes (get_or s i 0) e, ← sub-one d, le-ltb n (d - 1) (omega arith))

  -- over a byte that is no mark and no bracket
  pub other_turn : (get_or s i 0 ≡ 0x22 → ⊥) → (eqb (get_or s i 0) 0x5b || eqb (get_or s i 0) 0x7b) ≡ false →
      (eqb (get_or s i 0) 0x5d || eqb (get_or s i 0) 0x7d) ≡ false →
      to_pass n outside d (drop i s) ≡ suc (to_pass n outside d (drop (i + 1) s))
  unfolding to_pass
  other_turn f e g =
      ⊎_elim (λ (k : kind (get_or s i 0) ≡ slash). rw (split s i l, k, le-ltb n d m))
      (λ (k : kind (get_or s i 0) ≡ code neither). rw (split s i l, k, le-ltb n d m)) (kind_other (get_or s i 0) f e g)

-- so far the count never passed n, and it is d at i; or a string that nothing closes was skipped
abbrev pub SoFar : ℕ → List ℕ → ℕ → ℕ → Type 0
SoFar n s i d =
    (i ≤ length s + 1) × (d ≤ n) × (i ≤ length s → to_pass n outside 0 s ≡ i + to_pass n outside d (drop i s)) ×
    (length s < i → length s ≤ to_pass n outside 0 s)

module _ (n d : ℕ) (s : List ℕ) (i : ℕ) (l : i < length s) (h : SoFar n s i d) where
  -- over one byte
  step : (k : ℕ) → k ≤ n → to_pass n outside d (drop i s) ≡ suc (to_pass n outside k (drop (i + 1) s)) →
      SoFar n s (i + 1) k
  step k m e = let p = h.2 (omega arith) in (omega arith, m, λ x. omega (arith, e, p), λ x. absurd (omega arith))

  -- over a string
  pub over_string : (e : ℕ) → get_or s i 0 ≡ 0x22 → e ≡ i + 1 + to_close false (drop (i + 1) s) → SoFar n s (e + 1) d
  over_string e b k =
      let p = h.2 (omega arith) in (
        omega (arith, close_le false (drop (i + 1) s), length-drop (i + 1) s),
        h.1,
        λ x. omega (arith, p, string_turn n d s i l h.1 e b k (omega arith)),
        λ x. omega (arith, p, string_end n d s i l h.1 e b k (omega arith)),
      )

  -- over a bracket that opens
  pub over_open : (eqb (get_or s i 0) 0x5b || eqb (get_or s i 0) 0x7b) ≡ true → (d ≡ n → ⊥) → SoFar n s (i + 1) (d + 1)
  over_open b f =
      step (d + 1) (omega (arith, h.1, f)) (open_turn n d s i l h.1 b (omega (arith, h.1, f)))

  -- over one that closes
  pub over_close : (eqb (get_or s i 0) 0x5d || eqb (get_or s i 0) 0x7d) ≡ true → SoFar n s (i + 1) (d - 1)
  over_close b = step (d - 1) (omega (arith, h.1)) (close_turn n d s i l h.1 b)

  -- over any other byte
  pub over_other : (get_or s i 0 ≡ 0x22 → ⊥) → (eqb (get_or s i 0) 0x5b || eqb (get_or s i 0) 0x7b) ≡ false →
      (eqb (get_or s i 0) 0x5d || eqb (get_or s i 0) 0x7d) ≡ false → SoFar n s (i + 1) d
  over_other f g k = step d h.1 (other_turn n d s i l h.1 f g k)

  -- at the bracket with which the count passes n
  pub at_passing : (eqb (get_or s i 0) 0x5b || eqb (get_or s i 0) 0x7b) ≡ true → d ≡ n → to_pass n outside 0 s ≡ i
  at_passing b e = let p = h.2 (omega arith) in omega (arith, p, open_stop n d s i l h.1 b e)

-- at the end
pub at_end : (n d : ℕ) (s : List ℕ) (i : ℕ) → length s ≤ i → SoFar n s i d → length s ≤ to_pass n outside 0 s
at_end n d s i l h =
    elim (dec_lt (length s) i) [
      | yes g ↦ h.3 g
      | no f ↦ let p = h.2 (omega arith) in omega (arith, p)
    ]

-- the answers
pub within : (n : ℕ) (s : List ℕ) → length s ≤ to_pass n outside 0 s → Ok tt ≡ depth_of n s
unfolding depth_of
within n s l = rw (le-ltb (to_pass n outside 0 s) (length s) l)

-- the count passes n at i
pub passes : (n : ℕ) (s : List ℕ) (i : ℕ) → i < length s → to_pass n outside 0 s ≡ i → Err (record { place = i }) ≡ depth_of n s
unfolding depth_of
passes n s i l e = rw (e, lt-ltb i (length s) l)

-- the place, in the count's own terms: so far it is at most n, and with one byte more it is not
upto : (n : ℕ) (m : Mode) (d : ℕ) (w : List ℕ) → d ≤ n → peak m d (take (to_pass n m d w) w) ≤ n
unfolding to_pass peak
upto n m d [] l = omega arith
upto n m d (b ∷ w) l =
    by_test (ltb n (move m (kind b) d))
    (λ e. rw e (omega arith))
    (λ e. let k = upto n (turn m (kind b)) (move m (kind b) d) w (ltb-false n (move m (kind b) d) e) in rw e
    (omega arith))

-- the peak is at least the depth at the start
from : (m : Mode) (d : ℕ) (w : List ℕ) → d ≤ peak m d w
unfolding peak
from m d [] = omega arith
from m d (b ∷ w) = omega arith

-- with the byte at the place, the count is above n
over : (n : ℕ) (m : Mode) (d : ℕ) (w : List ℕ) → to_pass n m d w < length w →
    n < peak m d (take (suc (to_pass n m d w)) w)
unfolding to_pass peak
over n m d [] l = absurd (omega arith)
over n m d (b ∷ w) l =
    go (ltb n (move m (kind b) d)) refl (λ l. over n (turn m (kind b)) (move m (kind b) d) w l) l where
      go : (t : Bool) → ltb n (move m (kind b) d) ≡ t →
          (to_pass n (turn m (kind b)) (move m (kind b) d) w < length w → n < peak (turn m (kind b)) (move m (kind b) d)
          (take (suc (to_pass n (turn m (kind b)) (move m (kind b) d) w)) w)) →
          to_pass n m d (b ∷ w) < length (b ∷ w) → n < peak m d (take (suc (to_pass n m d (b ∷ w))) (b ∷ w))
      go true e r l = let k = ltb-true n (move m (kind b) d) e in rw e (omega arith)
      go false e r l =
          let k : suc (to_pass n (turn m (kind b)) (move m (kind b) d) w) < suc (length w) = rw e at l in
          let z = r (omega arith) in rw e (omega arith)

-- a part from the start has no larger count
pub part : (m : Mode) (d k : ℕ) (w : List ℕ) → peak m d (take k w) ≤ peak m d w
unfolding peak
part m d zero w = from m d w
part m d (suc k) [] = omega arith
part m d (suc k) (b ∷ w) = let l = part (turn m (kind b)) (move m (kind b) d) k w in omega arith

-- a count that never passes n has a peak of at most n
pub never : (n : ℕ) (s : List ℕ) → length s ≤ to_pass n outside 0 s → peak outside 0 s ≤ n
never n s l =
    let k : take (to_pass n outside 0 s) s ≡ s = take_all (to_pass n outside 0 s) s l in
    rw k at (upto n outside 0 s (omega arith))

-- the answer of `depth`, in the count's terms
pub counted : (n : ℕ) (s : List ℕ) → Counted s n (depth_of n s)
unfolding depth_of
counted n s =
    by_test (ltb (to_pass n outside 0 s) (length s))
    (λ e. let l = ltb-true (to_pass n outside 0 s) (length s) e in rw e
    (counted_passes l (upto n outside 0 s (omega arith))
    (rw (add-one (to_pass n outside 0 s)) (over n outside 0 s l))))
    (λ e. rw e (counted_within (never n s (ltb-false (to_pass n outside 0 s) (length s) e))))
