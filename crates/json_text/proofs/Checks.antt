-- The answer of the scan, in the grammar's terms.
-- Assumes nothing.
use Prim.Native.Nat.{ℕ, ◌+◌, ◌-◌, ◌≤◌, ◌<◌}
use native.Mathlib.Nat.{lt_irrefl, lt_of_lt_of_le}
use native.Mathlib.Omega.{arith}
use mathlib.Core.Path.{◌≡◌, refl, sym, ap}
use mathlib.Core.List.{List, ◌∷◌, ◌++◌, append_assoc}
use lib.ListN.{length, take, drop, take-append-drop}
use lib.Seq.{take-take}
use native.Mathlib.Decide.{dec_lt}
use Rattle.std.specs.Prelude.{⊤, Result, Ok, Err}
use Rattle.json_text.specs.declared.error.TooDeep.{TooDeep}
use Rattle.json_text.specs.declared.error.ScanError.{ScanError}
use Rattle.json_text.specs.declared.error.ScanError.TheVariants.{Broke, Deep}
use Rattle.json_text.specs.Tree.{Json, Fields, depth}
use Rattle.json_text.specs.Grammar.{IsWs, Ws, Text}
use Rattle.json_text.specs.Faults.{Not, Is, NoText}
use Rattle.json_text.specs.Faults.Fault.{broke, deep}
use Rattle.json_text.specs.Depth.{peak, depth_of}
use Rattle.json_text.specs.Depth.Mode.{outside}
use Rattle.json_text.specs.Parse.{Got, TextOk, first?, text_run, ws_run}
use Rattle.json_text.specs.Parse.Got.{got, lost}
use Rattle.json_text.specs.Parse.First.{is_first, not_first}
use Rattle.json_text.specs.Answer.{answer, scan_of}
use Rattle.json_text.specs.Check.{Counted, Longest, Checked}
use Rattle.json_text.specs.Check.Counted.{counted_within, counted_passes}
use Rattle.json_text.specs.Check.Checked.{checked_past, checked_broke, checked_deep}
use Rattle.json_text.proofs.Unique.{text_unique}
use Rattle.json_text.proofs.Excluded.{broke_none, deep_deeper}
use Rattle.json_text.proofs.Counts.{part, never, passes, counted}
use Rattle.json_text.proofs.Depths.{text_low, deep_place}
use Rattle.json_text.proofs.Tops.{top_object, in_object, no_object, longest, place}
use Rattle.json_text.proofs.Answers.{scan_brace, scan_other}

-- the scan finds no level left where the count passes
deep_at : (n : ℕ) (s r : List ℕ) → NoText n s deep r → depth_of n s ≡ Err (record { place = length s - length r })
deep_at n s r k = let d = deep_place k in sym (passes n s (length s - length r) (omega arith) (omega arith))

-- { comes first
braced : {n : ℕ} {s v : List ℕ} → Ws s (0x7b ∷ v) → (g : Got (TextOk n s) (NoText n s)) → Checked s n (answer s g)
braced x (got r k) =
    let o = top_object x k.1 in
    checked_past (rw o.1 at k.1) (rw o.1 at k.2)
braced {s = s} x (lost broke r k) =
    let i = in_object x k in
    let p = place s r i.cut in
    checked_broke (longest s (length s - length r) p.0 (rw p.1 i))
braced {n = n} {s = s} x (lost deep r k) = checked_deep (deep_at n s r k) (λ ms y. deep_deeper k y)

-- another byte comes first, or none
other : {n : ℕ} {s v : List ℕ} → Ws s v → Not IsWs v → Not (Is 0x7b) v → Checked s n (Err (Broke (length s - length v)))
other {s = s} {v = v} x q f =
    let i = no_object x q f in
    let p = place s v i.cut in
    checked_broke (longest s (length s - length v) p.0 (rw p.1 i))

-- the answer of the scan
pub checked : (n : ℕ) (s : List ℕ) → Checked s n (scan_of n s)
checked n s =
    let k = ws_run s in
    elim (first? 0x7b k.0) [
      | is_first v e ↦ rw (scan_brace n (rw e at k.1) (rw e at k.2)) (braced (rw e at k.1) (text_run n s))
      | not_first f ↦ rw (scan_other n k.1 k.2 f) (other k.1 k.2 f)
    ]

-- a count that passes n has a peak above n
passes_over : {n p : ℕ} {s : List ℕ} {o : Result ⊤ TooDeep} → Counted s n o → o ≡ Err (record { place = p }) → n < peak outside 0 s
passes_over (counted_within l) e = absurd (let z : ◌≡◌ {A = ℕ} 0 1 = cc in omega arith)
passes_over {s = s} (counted_passes {p = q} l a b) e = omega (arith, b, part outside 0 (q + 1) s)

-- within, from the peak
pub low_within : {n : ℕ} {s : List ℕ} {o : Result ⊤ TooDeep} → Counted s n o → peak outside 0 s ≤ n → o ≡ Ok tt
low_within (counted_within l) h = refl
low_within {s = s} (counted_passes {p = q} l a b) h = absurd (omega (arith, b, part outside 0 (q + 1) s))

-- the peak, from within
pub within_low : {n : ℕ} {s : List ℕ} {o : Result ⊤ TooDeep} → Counted s n o → o ≡ Ok tt → peak outside 0 s ≤ n
within_low (counted_within l) e = l
within_low (counted_passes l a b) e = absurd (let z : ◌≡◌ {A = ℕ} 0 1 = cc in omega arith)

-- a text of at most n levels has a peak of at most n
pub text_low_peak : {s : List ℕ} {j : Json} (n : ℕ) → Text s j → depth j ≤ n → peak outside 0 s ≤ n
text_low_peak {s = s} n x l = never n s (omega (arith, text_low n x l))

-- a text with a peak of at most n has at most n levels
pub low_depth : {s : List ℕ} {j : Json} (n : ℕ) → Text s j → peak outside 0 s ≤ n → depth j ≤ n
low_depth {s = s} {j = j} n x l = go (text_run n s)
  where
    go : Got (TextOk n s) (NoText n s) → depth j ≤ n
    go (got r k) = rw (text_unique x k.1) k.2
    go (lost broke r k) = absurd (broke_none k x)
    go (lost deep r k) = absurd (omega (arith, passes_over (counted n s) (deep_at n s r k)))

-- the scan is past a text with an object
pub past_says : {n p : ℕ} {s : List ℕ} {o : Result ℕ ScanError} → Checked s n o → o ≡ Ok p →
    (p ≡ length s) × (ms : Fields) × Text s (Json.object ms) × (depth (Json.object ms) ≤ n)
past_says (checked_past x l) e = (cc, _, x, l)
past_says (checked_broke h) e = absurd (let z : ◌≡◌ {A = ℕ} 0 1 = cc in omega arith)
past_says (checked_deep h k) e = absurd (let z : ◌≡◌ {A = ℕ} 0 1 = cc in omega arith)

-- and past each such text of at most n levels
pub says_past : {n : ℕ} {s : List ℕ} {ms : Fields} {o : Result ℕ ScanError} → Checked s n o → Text s (Json.object ms) →
    depth (Json.object ms) ≤ n → o ≡ Ok (length s)
says_past (checked_past x l) y m = refl
says_past (checked_broke h) y m = absurd (h.none _ y)
says_past (checked_deep h k) y m = absurd (lt_irrefl _ (lt_of_lt_of_le (k _ y) m))

-- no level is missing where the count stays within n
pub no_deep : {n p : ℕ} {s : List ℕ} {o : Result ℕ ScanError} → Checked s n o → depth_of n s ≡ Ok tt → o ≡ Err (Deep p) → ⊥
no_deep (checked_past x l) w e = let z : ◌≡◌ {A = ℕ} 0 1 = cc in omega arith
no_deep (checked_broke h) w e = let z : ◌≡◌ {A = ℕ} 0 1 = cc in omega arith
no_deep (checked_deep h k) w e = let z : ◌≡◌ {A = ℕ} 0 1 = cc in omega arith

-- a longer start of s is no start of a text with an object
not_longer : (s : List ℕ) (p q : ℕ) → Longest s p → Longest s q → p < q → ⊥
not_longer s p q x y l =
    let k : p + 1 ≤ q = omega arith in
    let h : p < length s = omega (arith, y.within) in
    x.longest h (drop (p + 1) (take q s) ++ y.starts.0) y.starts.1
    (rw (← append_assoc, ← take-take (p + 1) q s k, take-append-drop) y.starts.2)

-- there is one longest start
one_longest : (s : List ℕ) (p q : ℕ) → Longest s p → Longest s q → p ≡ q
one_longest s p q x y =
    elim (dec_lt p q) [
      | yes l ↦ absurd (not_longer s p q x y l)
      | no f ↦ elim (dec_lt q p) [
        | yes l ↦ absurd (not_longer s q p y x l)
        | no g ↦ omega arith
      ]
    ]

-- where rule 10 holds there is one right answer
pub one_answer : {n : ℕ} {s : List ℕ} {o u : Result ℕ ScanError} → depth_of n s ≡ Ok tt → Checked s n o → Checked s n u → o ≡ u
one_answer w (checked_past x l) (checked_past y m) = refl
one_answer w (checked_past x l) (checked_broke y) = absurd (y.none _ x)
one_answer w (checked_past x l) (checked_deep d y) = absurd (let z : ◌≡◌ {A = ℕ} 0 1 = cc in omega arith)
one_answer w (checked_broke x) (checked_past y m) = absurd (x.none _ y)
one_answer {s = s} w (checked_broke {p = p} x) (checked_broke {p = q} y) = ap Err (ap Broke (one_longest s p q x y))
one_answer w (checked_broke x) (checked_deep d y) = absurd (let z : ◌≡◌ {A = ℕ} 0 1 = cc in omega arith)
one_answer w (checked_deep d x) u = absurd (let z : ◌≡◌ {A = ℕ} 0 1 = cc in omega arith)
