-- Laws of strings over bytes, at positions of the input s.
-- Assumes nothing.
use Prim.Native.Nat.{ℕ, suc, ◌+◌, ◌≤◌, ◌<◌, max}
use native.Mathlib.Decide.{dec_lt}
use native.Mathlib.Omega.{arith}
use native.Mathlib.Numerals.{add-one}
use mathlib.Core.Path.{◌≡◌, refl}
use mathlib.Core.Bool.{Bool, true, false, ◌||◌}
use mathlib.Core.Logic.{◌⊎◌, inl, inr}
use Rattle.json_text.specs.Depth.{kind}
use Rattle.json_text.specs.Depth.Kind.{slash, code}
use Rattle.json_text.specs.Depth.Bracket.{opens, closes, neither}
use mathlib.Core.List.{List, [], ◌∷◌}
use borrow.Author.Tests.{ne_eqb, eqb-true}
use lib.Dec.{eqb}
use lib.ListN.{length, drop, get_or, drop_of_length-le}
use lib.Seq.{drop-cons}
use Rattle.laws.proofs.Tests.{by_test, or_false}
use Rattle.json_text.specs.Strings.{to_close}

-- the byte at i and what follows it
pub split : (s : List ℕ) (i : ℕ) → i < length s → drop i s ≡ get_or s i 0 ∷ drop (i + 1) s
split s i l = rw (add-one, drop-cons s i 0)

-- nothing stands past the end
pub past : (s : List ℕ) (i : ℕ) → length s ≤ i → drop i s ≡ []
past s i l = drop_of_length-le s {i = i} l

-- a mark closes the string
pub close_here : (s : List ℕ) (i : ℕ) → i < length s → get_or s i 0 ≡ 0x22 → to_close false (drop i s) ≡ 0
unfolding to_close
close_here s i l e = rw (split s i l, e)

-- the end
pub close_end : (s : List ℕ) (i : ℕ) → length s ≤ i → to_close false (drop i s) ≡ 0
unfolding to_close
close_end s i l = rw (past s i l)

-- one byte: hidden, or no mark
pub close_hidden : (s : List ℕ) (i : ℕ) → i < length s →
    to_close true (drop i s) ≡ suc (to_close false (drop (i + 1) s))
unfolding to_close
close_hidden s i l = rw (split s i l)

pub close_open : (s : List ℕ) (i : ℕ) → i < length s → (get_or s i 0 ≡ 0x22 → ⊥) →
    to_close false (drop i s) ≡ suc (to_close (eqb (get_or s i 0) 0x5c) (drop (i + 1) s))
unfolding to_close
close_open s i l f = rw (split s i l, ne_eqb (get_or s i 0) 0x22 f)

-- no mark up to the end
pub close_none : (s : List ℕ) (at i : ℕ) (h : Bool) → length s ≤ i → (at ≤ length s → i ≤ length s) →
    at + to_close false (drop at s) ≡ i + to_close h (drop i s) → max at (length s) ≡ at + to_close false (drop at s)
unfolding to_close
close_none s at i h l f e =
    elim (dec_lt at (length s)) [
      | yes g ↦ omega (arith, f (omega arith), ends)
      | no g ↦ let k = close_end s at (omega arith) in omega (arith, k)
    ]
  where
    ends : to_close h (drop i s) ≡ 0
    ends = rw (past s i l)

-- the end of a string
pub close_le : (h : Bool) (w : List ℕ) → to_close h w ≤ length w
unfolding to_close
close_le h [] = omega arith
close_le true (b ∷ w) = let l = close_le false w in omega arith
close_le false (b ∷ w) =
    by_test (eqb b 0x22) (λ e. rw e (omega arith)) (λ e. let l = close_le (eqb b 0x5c) w in rw e (omega arith))

-- where a string is closed there is a mark
pub close_mark : (h : Bool) (w : List ℕ) → to_close h w < length w →
    drop (to_close h w) w ≡ 0x22 ∷ drop (suc (to_close h w)) w
unfolding to_close
close_mark h [] l = absurd (omega arith)
close_mark true (b ∷ w) l = close_mark false w (omega arith)
close_mark false (b ∷ w) l = go (eqb b 0x22) (λ m. close_mark (eqb b 0x5c) w m) refl l where
  go : (t : Bool) →
      (to_close (eqb b 0x5c) w < length w →
      drop (to_close (eqb b 0x5c) w) w ≡ 0x22 ∷ drop (suc (to_close (eqb b 0x5c) w)) w) →
      eqb b 0x22 ≡ t → to_close false (b ∷ w) < length (b ∷ w) →
      drop (to_close false (b ∷ w)) (b ∷ w) ≡ 0x22 ∷ drop (suc (to_close false (b ∷ w))) (b ∷ w)
  go true r e l = let k = eqb-true b 0x22 e in rw (e, k)
  go false r e l = let m : suc (to_close (eqb b 0x5c) w) < suc (length w) = rw e at l in rw e (r (omega arith))

-- kinds of bytes
pub kind_opens : (b : ℕ) → (eqb b 0x5b || eqb b 0x7b) ≡ true → kind b ≡ code opens
kind_opens b e =
    by_test (eqb b 0x5b) (λ f. let k = eqb-true b 0x5b f in rw k) (λ f. let k = eqb-true b 0x7b (rw f at e) in rw k)

-- } and ] close
pub kind_closes : (b : ℕ) → (eqb b 0x5d || eqb b 0x7d) ≡ true → kind b ≡ code closes
kind_closes b e =
    by_test (eqb b 0x5d) (λ f. let k = eqb-true b 0x5d f in rw k) (λ f. let k = eqb-true b 0x7d (rw f at e) in rw k)

-- a byte that is no mark and no bracket
pub kind_other : (b : ℕ) → (b ≡ 0x22 → ⊥) → (eqb b 0x5b || eqb b 0x7b) ≡ false → (eqb b 0x5d || eqb b 0x7d) ≡ false →
    (kind b ≡ slash) ⊎ (kind b ≡ code neither)
kind_other b f e g =
    let x = or_false (eqb b 0x5b) (eqb b 0x7b) e in
    let y = or_false (eqb b 0x5d) (eqb b 0x7d) g in
    by_test (eqb b 0x5c)
    (λ k. inl (rw (ne_eqb b 0x22 f, k)))
    (λ k. inr (rw (ne_eqb b 0x22 f, k, x.0, x.1, y.0, y.1)))
