-- The longest start of whole characters.
-- Assumes nothing.
use Prim.Native.Nat.{ℕ, zero, suc, ◌+◌, ◌-◌, ◌≤◌, ◌<◌}
use native.Mathlib.Omega.{arith}
use mathlib.Core.Path.{◌≡◌, refl}
use mathlib.Core.List.{List, [], ◌∷◌}
use borrow.Author.Tests.{ne_eqb}
use lib.ListN.{length, drop, length-drop}
use lib.Seq.{drop-drop}
use Rattle.utf8.specs.Rfc3629.{Octets}
use Rattle.utf8.specs.Rfc3629.Octets.{octets_none, octets_more}
use Rattle.utf8.specs.Utf8.{width_at, whole_from, whole_of}
use Rattle.utf8.proofs.Table.{wide, Said, said}
use Rattle.utf8.proofs.Table.Said.{said_char, said_none}

-- past the bytes of a character it goes on from nothing
skip : (k : ℕ) (w : List ℕ) → k ≤ length w → whole_from k w ≡ k + whole_of (drop k w)
unfolding whole_from
skip zero w h = omega arith
skip (suc k) [] h = absurd (omega arith)
skip (suc k) (b ∷ w) h = let e = skip k w (omega arith) in omega arith

-- a character more
pub whole_more : (w : List ℕ) (n : ℕ) → width_at w ≡ n → 0 < n → n ≤ length w → whole_of w ≡ n + whole_of (drop n w)
unfolding whole_from
whole_more [] n e p l = absurd (omega arith)
whole_more (b ∷ w) zero e p l = absurd (omega arith)
whole_more (b ∷ w) (suc m) e p l =
    let k : suc m - 1 ≡ m = omega arith in
    let h = skip m w (omega arith) in
    rw (e, ne_eqb (suc m) 0 (λ z. omega arith), k) (omega arith)

-- no character here
pub whole_none : (w : List ℕ) → width_at w ≡ 0 → whole_of w ≡ 0
unfolding whole_from
whole_none [] e = refl
whole_none (b ∷ w) e = rw e refl

-- no start of whole characters is longer
pub whole_most : {w r : List ℕ} → Octets w r → length w ≤ whole_of w + length r
whole_most octets_none = omega arith
whole_most (octets_more {w = w} {v = v} c h) =
    let k = wide c in
    let l : length (drop k.0 w) ≤ whole_of (drop k.0 w) + _ = rw k.1.rest at (whole_most h) in
    omega (arith, whole_more w k.0 k.1.width k.1.some k.1.room, length-drop k.0 w, k.1.room)

-- the function's start is one of whole characters
pub record Ending (w : List ℕ) : Type 0 where
  pub fits : whole_of w ≤ length w
  pub whole : Octets w (drop (whole_of w) w)

ending_more : (w : List ℕ) (n : ℕ) → Said w n → width_at w ≡ n → ((v : List ℕ) → length v < length w → Ending v) → Ending w
ending_more w n (said_char l m c) e f =
    let h = f (drop n w) (omega (arith, length-drop n w)) in
    let k = whole_more w n e l m in
    let d : drop (whole_of w) w ≡ drop (whole_of (drop n w)) (drop n w) = rw (k, drop-drop) in
    record { fits = omega (arith, h.fits, length-drop n w); whole = rw d (octets_more c h.whole) }
ending_more w n (said_none g) e f = let k = whole_none w e in record { fits = omega arith; whole = rw k octets_none }

ending_by : (f : ℕ) (w : List ℕ) → length w < f → Ending w
ending_by zero w l = absurd (omega arith)
ending_by (suc f) w l = ending_more w (width_at w) (said w) refl (λ v m. ending_by f v (omega arith))

pub ending : (w : List ℕ) → Ending w
ending w = ending_by (suc (length w)) w (omega arith)
