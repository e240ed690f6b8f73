-- Laws of strings and names as bytes, at places of the input s.
-- Assumes nothing.
use Prim.Native.Nat.{ℕ, zero, suc, ◌+◌, ◌-◌, ◌≤◌, ◌<◌}
use native.Mathlib.Omega.{arith}
use mathlib.Core.Path.{◌≡◌, refl, sym, ap, ◌∙◌}
use mathlib.Core.Bool.{Bool, true, false, ◌||◌, true≢false}
use mathlib.Core.List.{List, [], ◌∷◌}
use borrow.Author.Tests.{ne_eqb, eq-eqb, eqb-true}
use lib.Dec.{eqb}
use lib.ListN.{length, drop, take, get_or, length-drop}
use Rattle.laws.proofs.Tests.{by_test, and-true, or_false}
use Rattle.json_text.specs.Strings.{to_close}
use Rattle.json_text.proofs.Marks.{split, past, close_le}
use Rattle.names.specs.Strings.{same, slashed}

-- the end of a string that starts in s is in s
pub close_in : (s : List ℕ) (at e : ℕ) → at ≤ length s → e ≡ at + to_close false (drop at s) → e ≤ length s
close_in s at e l k = omega (arith, close_le false (drop at s), length-drop at s)

-- two parts of s that are compared from j on
module _ (s : List ℕ) (a b n j : ℕ) (l : j < n) (x : a + n ≤ length s) (y : b + n ≤ length s) where
  pub same_turn : get_or s (a + j) 0 ≡ get_or s (b + j) 0
      → same (take (n - j) (drop (a + j) s)) (take (n - j) (drop (b + j) s))
      ≡ same (take (n - (j + 1)) (drop (a + (j + 1)) s)) (take (n - (j + 1)) (drop (b + (j + 1)) s))
  unfolding same
  same_turn e =
      let k : n - j ≡ suc (n - (j + 1)) = omega arith in
      let p : a + (j + 1) ≡ a + j + 1 = omega arith in
      let q : b + (j + 1) ≡ b + j + 1 = omega arith in
      rw (
        k,
        p,
        q,
        split s (a + j) (omega arith),
        split s (b + j) (omega arith),
        e,
        eq-eqb (get_or s (b + j) 0) (get_or s (b + j) 0) refl,
      )

  pub same_not : (get_or s (a + j) 0 ≡ get_or s (b + j) 0 → ⊥)
      → same (take (n - j) (drop (a + j) s)) (take (n - j) (drop (b + j) s)) ≡ false
  unfolding same
  same_not f =
      let k : n - j ≡ suc (n - (j + 1)) = omega arith in
      rw (k, split s (a + j) (omega arith), split s (b + j) (omega arith), ne_eqb (get_or s (a + j) 0) (get_or s (b + j) 0) f)

pub same_end : (s : List ℕ) (a b n j : ℕ) → n ≤ j
    → same (take (n - j) (drop (a + j) s)) (take (n - j) (drop (b + j) s)) ≡ true
unfolding same
same_end s a b n j l = let k : n - j ≡ 0 = omega arith in rw k

-- `same` tells equal names, ..
pub same_true : (x y : List ℕ) → same x y ≡ true → x ≡ y
unfolding same
same_true [] [] e = refl
same_true [] (b ∷ y) e = absurd (true≢false (sym e))
same_true (a ∷ x) [] e = absurd (true≢false (sym e))
same_true (a ∷ x) (b ∷ y) e =
    let h = and-true (eqb a b) (same x y) e in
    let i = eqb-true a b h.0 in
    let j = same_true x y h.1 in
    cc

-- .. and a name is the same as itself
pub same_refl : (x : List ℕ) → same x x ≡ true
unfolding same
same_refl [] = refl
same_refl (a ∷ x) = rw (eq-eqb a a refl, same_refl x)

-- names of two lengths differ
pub same_length : (x y : List ℕ) → (length x ≡ length y → ⊥) → same x y ≡ false
unfolding same
same_length [] [] f = absurd (f refl)
same_length [] (b ∷ y) f = refl
same_length (a ∷ x) [] f = refl
same_length (a ∷ x) (b ∷ y) f =
    by_test (eqb a b) (λ e. rw (e, same_length x y (λ h. f (ap suc h)))) (λ e. rw e)

-- the backslashes before i, and those from i on
abbrev pub Seen : List ℕ → Bool → ℕ → Type 0
Seen s seen i = (i ≤ length s) × (slashed s ≡ (seen || slashed (drop i s)))

pub seen_turn : (s : List ℕ) (seen : Bool) (i : ℕ) → i < length s → Seen s seen i
    → Seen s (seen || eqb (get_or s i 0) 0x5c) (i + 1)
unfolding slashed
seen_turn s seen i l h =
    (omega arith, h.1 ∙ rw (split s i l) (either seen (eqb (get_or s i 0) 0x5c) (slashed (drop (i + 1) s))))
  where
    either : (x y z : Bool) → (x || (y || z)) ≡ ((x || y) || z)
    either true y z = refl
    either false y z = refl

pub seen_end : (s : List ℕ) (seen : Bool) (i : ℕ) → length s ≤ i → Seen s seen i → seen ≡ slashed s
unfolding slashed
seen_end s seen i l h = sym (h.1 ∙ rw (past s i l) (none seen))
  where
    none : (x : Bool) → (x || false) ≡ x
    none true = refl
    none false = refl

-- a start of bytes without a backslash has none
pub slashed_take : (n : ℕ) (w : List ℕ) → slashed w ≡ false → slashed (take n w) ≡ false
unfolding slashed
slashed_take zero w e = refl
slashed_take (suc n) [] e = refl
slashed_take (suc n) (b ∷ w) e =
    let h = or_false (eqb b 0x5c) (slashed w) e in
    rw (h.0, slashed_take n w h.1)
