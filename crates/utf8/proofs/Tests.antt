-- The tests of the function, and what they say.
-- Assumes nothing.
use Prim.Native.Nat.{ℕ, zero, suc, ◌<◌}
use native.Mathlib.Omega.{arith}
use mathlib.Core.Path.{◌≡◌, refl, ap, ◌∙◌}
use mathlib.Core.Bool.{Bool, true, false, ◌&&◌}
use mathlib.Core.List.{List, [], ◌∷◌}
use borrow.Author.Tests.{leb-true, eqb-true, le-leb, lt-leb}
use lib.Dec.{eqb, leb}
use lib.ListN.{drop}
use Rattle.laws.proofs.Tests.{and-true}
use Rattle.utf8.specs.Rfc3629.{In, Tail}
use Rattle.utf8.specs.Utf8.{byte_at, within, tail}

-- a byte in a range passes its test, ..
pub in_yes : {lo hi b : ℕ} → In lo hi b → within lo hi b ≡ true
unfolding within
in_yes {lo} {hi} {b} h = rw (le-leb lo b h.0, le-leb b hi h.1)

-- .. one above it does not, ..
pub in_above : (lo hi b : ℕ) → hi < b → within lo hi b ≡ false
unfolding within
in_above lo hi b h = go (leb lo b) where
  go : (x : Bool) → (x && leb b hi) ≡ false
  go true = lt-leb b hi h
  go false = refl

-- .. and one that passes is in the range
pub in_true : (lo hi b : ℕ) → within lo hi b ≡ true → In lo hi b
unfolding within
in_true lo hi b e = let h = and-true (leb lo b) (leb b hi) e in (leb-true lo b h.0, leb-true b hi h.1)

-- a row of the table whose first byte is a range
pub row : (lo hi a b : ℕ) → (within lo hi a && tail b) ≡ true → In lo hi a × Tail b
row lo hi a b e = let h = and-true (within lo hi a) (tail b) e in (in_true lo hi a h.0, in_true 0x80 0xbf b h.1)

-- a row of the table whose first byte is given
pub row_at : (k lo hi a b : ℕ) → (eqb a k && within lo hi b) ≡ true → (a ≡ k) × In lo hi b
row_at k lo hi a b e = let h = and-true (eqb a k) (within lo hi b) e in (eqb-true a k h.0, in_true lo hi b h.1)

-- a byte below 256 is there
pub next : (w : List ℕ) (i : ℕ) → byte_at w i < 256 → drop i w ≡ byte_at w i ∷ drop (suc i) w
next [] i h = absurd (omega arith)
next (a ∷ w) zero h = refl
next (a ∷ w) (suc i) h = next w i h

-- the first two bytes
pub two : (w : List ℕ) → byte_at w 0 < 256 → byte_at w 1 < 256 → w ≡ byte_at w 0 ∷ byte_at w 1 ∷ drop 2 w
two w h k = next w 0 h ∙ ap (λ (v : List ℕ). byte_at w 0 ∷ v) (next w 1 k)

-- the first three
pub three : (w : List ℕ) → byte_at w 0 < 256 → byte_at w 1 < 256 → byte_at w 2 < 256
    → w ≡ byte_at w 0 ∷ byte_at w 1 ∷ byte_at w 2 ∷ drop 3 w
three w h k l = two w h k ∙ ap (λ (v : List ℕ). byte_at w 0 ∷ byte_at w 1 ∷ v) (next w 2 l)

-- the first four
pub four : (w : List ℕ) → byte_at w 0 < 256 → byte_at w 1 < 256 → byte_at w 2 < 256 → byte_at w 3 < 256
    → w ≡ byte_at w 0 ∷ byte_at w 1 ∷ byte_at w 2 ∷ byte_at w 3 ∷ drop 4 w
four w h k l m = three w h k l ∙ ap (λ (v : List ℕ). byte_at w 0 ∷ byte_at w 1 ∷ byte_at w 2 ∷ v) (next w 3 m)
