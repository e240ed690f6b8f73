-- The theorems: the digits of a number spell it and no others do, and a list of 99 bytes has room for every report.
-- Assumes nothing.
use Prim.Native.Nat.{ℕ, zero, suc, ◌+◌, ◌*◌, ◌-◌, ◌/◌, ◌%◌, ◌^◌, ◌≤◌, ◌<◌}
use mathlib.Core.Path.{◌≡◌, refl, sym, ap, ◌∙◌}
use mathlib.Core.List.{List, [], ◌∷◌, ◌++◌}
use native.Mathlib.Nat.{not-suc-le-zero}
use native.Mathlib.Omega.{arith}
use lib.Dec.{ltb, eqb}
use lib.ListN.{length, get_or, take, drop, get_or-append}
use lib.Seq.{get_or_at, get_or-take, length-take-le, take_all, take-suc}
use borrow.Author.Tests.{ltb-true, ltb-false, eqb-true, eqb-false, le-leb, lt-leb}
use Rattle.std.specs.Prelude.{None, Some}
use Rattle.laws.proofs.Tests.{by_test}
use Rattle.lines.specs.Decimal.{decimal_of, value_of, Spells}
use Rattle.lines.specs.Report.{report_of, longest, fits, count_in, written_in}
use Rattle.lines.specs.Results.{placed_in}
use Rattle.lines.proofs.Digits.{decimal_small, decimal_large, width_small, width_large, width_some, width_ten}
use Rattle.lines.proofs.Texts.{length-refused, length-accepted}

-- digits behind others
value_append : (m : ℕ) (xs ys : List ℕ) → value_of m (xs ++ ys) ≡ value_of (value_of m xs) ys
unfolding value_of
value_append m [] ys = refl
value_append m (x ∷ xs) ys = value_append (10 * m + (x - 0x30)) xs ys

-- a fact of every number, from those below 10 and from the tenth
by_tenth : (P : ℕ → Type 0) → ((n : ℕ) → n < 10 → P n) → ((n : ℕ) → 10 ≤ n → P (n / 10) → P n) → (k n : ℕ) → n < k → P n
by_tenth P small large zero n h = absurd (not-suc-le-zero h)
by_tenth P small large (suc k) n h =
    by_test (ltb n 10)
    (λ e. small n (ltb-true n 10 e))
    (λ e.
    let l : 10 ≤ n = ltb-false n 10 e in
    large n l (by_tenth P small large k (n / 10) (omega arith)))

-- the value of the digits
value_of_lem : (n : ℕ) → value_of 0 (decimal_of n) ≡ n
unfolding value_of
value_of_lem n =
    by_tenth (λ m. value_of 0 (decimal_of m) ≡ m)
    (λ m h. rw (decimal_small m h) (omega arith))
    (λ m h p. rw (decimal_large m h, value_append 0 (decimal_of (m / 10)) ((0x30 + m % 10) ∷ []), p) (omega arith))
    (suc n) n
    (omega arith)

-- the first digit of a number that is not 0
first_of : (n : ℕ) → 0 < n → 0x30 < get_or (decimal_of n) 0 0
first_of n =
    by_tenth (λ m. 0 < m → 0x30 < get_or (decimal_of m) 0 0)
    (λ m h z. rw (decimal_small m h) (omega arith))
    (λ m h p z. rw (decimal_large m h, get_or-append (decimal_of (m / 10)) ((0x30 + m % 10) ∷ []) 0 0 (width_some (m / 10))) (p (omega arith)))
    (suc n) n
    (omega arith)

-- every entry is a digit
digits_of_lem : (n i : ℕ) → i < length (decimal_of n) → (0x30 ≤ get_or (decimal_of n) i 0) × (get_or (decimal_of n) i 0 ≤ 0x39)
digits_of_lem n =
    by_tenth (λ m. (i : ℕ) → i < length (decimal_of m) → (0x30 ≤ get_or (decimal_of m) i 0) × (get_or (decimal_of m) i 0 ≤ 0x39))
    (λ m h i l.
    let e : i ≡ 0 = omega (arith, width_small m h) in
    rw (e, decimal_small m h) (omega arith))
    (λ m h p i l.
    let ds = decimal_of (m / 10) in
    let d : ℕ = 0x30 + m % 10 in
    by_test (ltb i (length ds))
    (λ e. rw (decimal_large m h, get_or-append ds (d ∷ []) 0 i (ltb-true i (length ds) e)) (p i (ltb-true i (length ds) e)))
    (λ e.
    let q : length ds ≤ i = ltb-false i (length ds) e in
    let f : length ds ≡ i = omega (arith, width_large m h) in
    rw (decimal_large m h, get_or_at ds d [] 0 i f) (omega arith)))
    (suc n) n
    (omega arith)

-- the digits of a number spell it
pub decimal_spells : (n : ℕ) → Spells n (decimal_of n)
decimal_spells n =
    record {
      some = width_some n;
      digits = digits_of_lem n;
      first =
          λ h.
          first_of n
          (by_test (ltb n 10) (λ e. omega (arith, width_small n (ltb-true n 10 e))) (λ e. omega (arith, ltb-false n 10 e)));
      value = value_of_lem n;
    }

-- digits behind a number make it no smaller
value_least : (m : ℕ) (ds : List ℕ) → m ≤ value_of m ds
unfolding value_of
value_least m [] = omega arith
value_least m (d ∷ ds) = omega (arith, value_least (10 * m + (d - 0x30)) ds)

-- a first digit that is not 0 makes the number not 0
value_first : (ds : List ℕ) → 0x30 < get_or ds 0 0 → 0 < value_of 0 ds
unfolding value_of
value_first [] h = omega arith
value_first (d ∷ ds) h =
    let l : 0x30 < d = h in
    omega (arith, value_least (10 * 0 + (d - 0x30)) ds)

-- the digits but the last
spells_front : (n k : ℕ) (ds : List ℕ) → length ds ≡ suc (suc k) → Spells n ds → Spells (value_of 0 (take (suc k) ds)) (take (suc k) ds)
spells_front n k ds e s =
    let l : length (take (suc k) ds) ≡ suc k = length-take-le (suc k) ds (omega arith) in
    record {
      some = omega arith;
      digits = λ i h. rw (get_or-take (suc k) ds i 0 (omega arith)) (s.digits i (omega arith));
      first = λ h. rw (get_or-take (suc k) ds 0 0 (omega arith)) (s.first (omega arith));
      value = refl;
    }

-- by the number of digits
only_by : (k n : ℕ) (ds : List ℕ) → length ds ≡ suc k → Spells n ds → ds ≡ decimal_of n
unfolding value_of
only_by zero n ds e s =
    let d : ℕ = get_or ds 0 0 in
    let f : ds ≡ d ∷ [] = sym (take_all 1 ds (omega arith)) ∙ take-suc ds 0 0 (omega arith) in
    let v : 10 * 0 + (d - 0x30) ≡ n = sym (ap (λ (l : List ℕ). value_of 0 l) f) ∙ s.value in
    let r : 0x30 + n ≡ d = omega (arith, (s.digits 0 (omega arith)).0) in
    f ∙ rw (← r) (sym (decimal_small n (omega (arith, (s.digits 0 (omega arith)).1))))
only_by (suc k) n ds e s =
    let front = take (suc k) ds in
    let d : ℕ = get_or ds (suc k) 0 in
    let q : ℕ = value_of 0 front in
    let f : ds ≡ front ++ (d ∷ []) = sym (take_all (suc (suc k)) ds (omega arith)) ∙ take-suc ds (suc k) 0 (omega arith) in
    let v : 10 * q + (d - 0x30) ≡ n = sym (ap (λ (l : List ℕ). value_of 0 l) f ∙ value_append 0 front (d ∷ [])) ∙ s.value in
    let z : 0 < q = value_first front (rw (get_or-take (suc k) ds 0 0 (omega arith)) (s.first (omega arith))) in
    let g = s.digits (suc k) (omega arith) in
    let t : n / 10 ≡ q = omega (arith, g.0, g.1) in
    let u : 0x30 + n % 10 ≡ d = omega (arith, g.0, g.1) in
    let i : front ≡ decimal_of q = only_by k q front (length-take-le (suc k) ds (omega arith)) (spells_front n k ds e s) in
    f ∙ rw i (sym (rw (decimal_large n (omega (arith, g.0)), t, u)))

-- and no others do
pub decimal_only : (n : ℕ) (ds : List ℕ) → Spells n ds → ds ≡ decimal_of n
decimal_only n ds s = only_by (length ds - 1) n ds (omega (arith, s.some)) s

-- no report of u32 numbers is longer than the longest
pub report_longest : (v i a b c d : ℕ) → v < 2 ^ 32 → i < 2 ^ 32 → a < 2 ^ 32 → b < 2 ^ 32 → c < 2 ^ 32 → d < 2 ^ 32
    → length (report_of v i a b c d) ≤ longest
report_longest v i a b c d hv hi ha hb hc hd =
    by_test (eqb v 0)
    (λ e.
    let z : v ≡ 0 = eqb-true v 0 e in
    omega (
      arith,
      length-accepted v i a b c d z,
      width_small v (omega arith),
      width_ten i hi,
      width_ten a ha,
      width_ten b hb,
      width_ten c hc,
      width_ten d hd,
    ))
    (λ e. omega (arith, length-refused v i a b c d (eqb-false v 0 e), width_ten v hv, width_ten i hi))

-- where a text has room, all of it is written and the rest of the list stays
pub room_written : (text list : List ℕ) → length text ≤ length list
    → (count_in text list ≡ length text) × (written_in text list ≡ text ++ drop (length text) list)
unfolding fits count_in written_in
room_written text list h = rw (le-leb (length text) (length list) h) (refl, refl)

-- and its length is answered
pub room_placed : (text list : List ℕ) → length text ≤ length list → placed_in text list ≡ Some (length text)
unfolding fits count_in placed_in
room_placed text list h = rw (le-leb (length text) (length list) h)

-- else none of it, and the list stays
pub none_placed : (text list : List ℕ) → length list < length text → (placed_in text list ≡ None) × (written_in text list ≡ list)
unfolding fits placed_in written_in
none_placed text list h = rw (lt-leb (length text) (length list) h) (refl, refl)
