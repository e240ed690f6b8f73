-- Runs of stores. Assumes nothing.
use Prim.Native.Nat.{ℕ, suc, ◌+◌, ◌-◌, ◌/◌, ◌%◌, ◌≤◌}
use mathlib.Core.Path.{◌≡◌, refl, sym, ◌∙◌}
use mathlib.Core.List.{List, [], ◌∷◌, ◌++◌}
use native.Mathlib.Nat.{add-zero}
use native.Mathlib.Omega.{arith}
use lib.ListN.{length, set, take, drop, length-append}
use lib.Seq.{sets, sets-eq, set_comm}
use borrow.Rule.Slice.PartMut.{put_mid}
use Rattle.std.proofs.lemmas.List.{append_assoc, drop-drop}
use Rattle.lines.specs.Report.{Put}
use Rattle.lines.proofs.Digits.{padded, length-padded}

-- one run after the other is the run of both
pub sets_append : (l : List ℕ) (i : ℕ) (xs ys : List ℕ) → sets l i (xs ++ ys) ≡ sets (sets l i xs) (i + length xs) ys
sets_append l i [] ys = rw (add-zero i)
sets_append l i (x ∷ xs) ys =
    let e : i + suc (length xs) ≡ suc i + length xs = omega arith in
    rw (e, sets_append (set l i x) (suc i) xs ys)

-- a store behind a run may come first
pub sets_set : (l : List ℕ) (i : ℕ) (xs : List ℕ) (k a : ℕ) → i + length xs ≤ k → sets (set l k a) i xs ≡ set (sets l i xs) k a
sets_set l i [] k a h = refl
sets_set l i (x ∷ xs) k a h =
    let h' : i + suc (length xs) ≤ k = h in
    rw (set_comm l k i a x (λ e. omega arith)) (sets_set (set l i x) (suc i) xs k a (omega arith))

-- a run's last store may come first
pub sets_last : (l : List ℕ) (i : ℕ) (xs : List ℕ) (a : ℕ) → sets l i (xs ++ (a ∷ [])) ≡ sets (set l (i + length xs) a) i xs
sets_last l i xs a = sets_append l i xs (a ∷ []) ∙ sym (sets_set l i xs (i + length xs) a (omega arith))

-- two pieces, one behind the other
pub put_two : {l : List ℕ} {i : ℕ} {xs : List ℕ} {j : ℕ} {m ys : List ℕ} {k : ℕ} {n : List ℕ}
    → Put l i xs j m → Put m j ys k n → Put l i (xs ++ ys) k n
put_two {l} {i} {xs} {j} {m} {ys} {k} {n} p q =
    record { ends = omega (arith, p.ends, q.ends, length-append xs ys); stored = q.stored ∙ rw (p.ends, p.stored) (sym (sets_append l i xs ys)) }

-- the last of so many digits, stored, and then those before it
pub digits_next : (l : List ℕ) (at i k n : ℕ) → i ≡ at + k → sets (set l i (0x30 + n % 10)) at (padded k (n / 10)) ≡ sets l at (padded (suc k) n)
unfolding padded
digits_next l at i k n e =
    let f : i ≡ at + length (padded k (n / 10)) = omega (arith, length-padded k (n / 10)) in
    rw f (sym (sets_last l at (padded k (n / 10)) (0x30 + n % 10)))

-- a word copied into its place
pub copied : (l word now : List ℕ) (at : ℕ) → at + length word ≤ length l → now ≡ word
    → Put l at word (at + length word) (put_mid at (at + length word - at) l now)
copied l word now at h e =
    let k : at + length word - at ≡ length word = omega arith in
    record {
      ends = refl;
      stored = rw (e, k, drop-drop (length word) at l) (sym (sets-eq word l at h ∙ append_assoc (take at l) word (drop (at + length word) l)));
    }
