-- The turns of the loop of `check`: the length is that of what is left at i, and i more.
-- Assumes nothing.
use Prim.Native.Nat.{ℕ, ◌+◌, ◌-◌, ◌≤◌, ◌<◌}
use native.Mathlib.Omega.{arith}
use mathlib.Core.Path.{◌≡◌, refl}
use mathlib.Core.List.{List, []}
use borrow.Author.Tests.{ne_eqb, eq-eqb, eqb-true, eqb-false, le-leb}
use lib.Dec.{eqb}
use lib.ListN.{length, take, drop, get_or, length-drop, drop_of_length-le}
use lib.Seq.{drop-drop, get_or-drop, take-length}
use Rattle.std.specs.Prelude.{Option, Some, None, Ok, Err, ok_or}
use Rattle.utf8.specs.declared.NotUtf8.{NotUtf8}
use Rattle.laws.proofs.Lists.{get_or_any}
use Rattle.laws.proofs.Tests.{by_test}
use Rattle.utf8.specs.Utf8.{byte_at, width_of, width_at, whole_from, whole_of, utf8_of}
use Rattle.utf8.specs.Results.{some_width}
use Rattle.utf8.proofs.Table.{Said, said}
use Rattle.utf8.proofs.Table.Said.{said_char, said_none}
use Rattle.utf8.proofs.Whole.{whole_more, whole_none}

-- i bytes are past
abbrev pub Past : List ℕ → ℕ → Type 0
Past s i = (i ≤ length s) × (whole_of s ≡ i + whole_of (drop i s))

-- a width that is there, and one that is not
some_is : (w : List ℕ) (n : ℕ) → Some n ≡ some_width w → (width_at w ≡ n) × (n ≡ 0 → ⊥)
unfolding some_width
some_is w n e =
    by_test (eqb (width_at w) 0)
    (λ t. absurd (cc (rw t at e)))
    (λ f. let k : n ≡ width_at w = cc (rw f at e) in (omega arith, λ z. eqb-false (width_at w) 0 f (omega arith)))

none_is : (w : List ℕ) → None ≡ some_width w → width_at w ≡ 0
unfolding some_width
none_is w e =
    by_test (eqb (width_at w) 0)
    (λ t. eqb-true (width_at w) 0 t)
    (λ f. absurd (cc (rw f at e)))

-- the slice from i on, as `width` is given it
from_is : (s : List ℕ) (i : ℕ) → take (length s - i) (drop i s) ≡ drop i s
from_is s i = let e : length s - i ≡ length (drop i s) = omega (arith, length-drop i s) in rw (e, take-length)

-- `ok_or` keeps which of the two it is
pub ok_some : (s : List ℕ) (i : ℕ) (o : Option ℕ) (e : NotUtf8) (n : ℕ) → o ≡ some_width (take (length s - i) (drop i s)) → ok_or o e ≡ Ok n
    → Some n ≡ some_width (drop i s)
ok_some s i (Some m) e n h k = let l = from_is s i in cc
ok_some s i None e n h k = absurd (cc)

pub err_none : (s : List ℕ) (i : ℕ) (o : Option ℕ) (e r : NotUtf8) → o ≡ some_width (take (length s - i) (drop i s)) → ok_or o e ≡ Err r
    → (None ≡ some_width (drop i s)) × (r ≡ e)
err_none s i (Some m) e r h k = absurd (cc)
err_none s i None e r h k = let l = from_is s i in (cc, cc)

-- a character of n bytes
turn : (s : List ℕ) (i n : ℕ) → Past s i → width_at (drop i s) ≡ n → (n ≡ 0 → ⊥) → Past s (i + n)
turn s i n h e f = go n (rw e at (said (drop i s))) e f where
  go : (n : ℕ) → Said (drop i s) n → width_at (drop i s) ≡ n → (n ≡ 0 → ⊥) → Past s (i + n)
  go n (said_char a b c) e f =
      let k = whole_more (drop i s) n e a b in
      let d : drop n (drop i s) ≡ drop (i + n) s = drop-drop n i s in
      (omega (arith, length-drop i s), rw (← d) (omega arith))
  go n (said_none g) e f = absurd (f refl)

pub wide_turn : (s : List ℕ) (i n : ℕ) → Past s i → Some n ≡ some_width (drop i s) → Past s (i + n)
wide_turn s i n h e = let k = some_is (drop i s) n e in turn s i n h k.0 k.1

-- it is not empty
pub some_more : (w : List ℕ) (n : ℕ) → Some n ≡ some_width w → 0 < n
some_more w n e = omega (arith, (some_is w n e).1)

-- a character of one byte
pub plain_turn : (s : List ℕ) (i : ℕ) → i < length s → get_or s i 0 < 0x80 → Past s i → Past s (i + 1)
unfolding width_of
plain_turn s i l b h =
    let e = get_or_any s i 0 256 l in
    let z : i + 0 ≡ i = omega arith in
    let t : byte_at (drop i s) 0 ≡ byte_at s i = simp (get_or-drop, z) in
    turn s i 1 h (rw (le-leb (byte_at (drop i s) 0) 0x7f (omega arith))) (λ z. omega arith)

-- no character at i
pub ends_here : (s : List ℕ) (i : ℕ) → i < length s → Past s i → None ≡ some_width (drop i s) → Err (record { place = i }) ≡ utf8_of s
unfolding utf8_of
ends_here s i l h e =
    let k = whole_none (drop i s) (none_is (drop i s) e) in
    let m : whole_of s ≡ i = omega arith in
    rw (m, ne_eqb i (length s) (λ x. omega arith))

-- the end of s
pub whole_here : (s : List ℕ) (i : ℕ) → length s ≤ i → Past s i → Ok tt ≡ utf8_of s
unfolding utf8_of whole_from
whole_here s i l h =
    let d : drop i s ≡ [] = drop_of_length-le s {i = i} l in
    let k : whole_of (drop i s) ≡ 0 = rw d refl in
    let m : whole_of s ≡ length s = omega arith in
    rw (m, eq-eqb (length s) (length s) refl)
