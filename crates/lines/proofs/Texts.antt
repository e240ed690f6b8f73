-- The lines: how long they are, and how they stand in a lent list. Assumes nothing.
use Prim.Native.Nat.{ℕ, ◌+◌, ◌≤◌, ◌<◌}
use mathlib.Core.Path.{◌≡◌, refl, ap, ◌∙◌}
use mathlib.Core.Bool.{cond}
use mathlib.Core.List.{List, [], ◌++◌, append-nil}
use native.Mathlib.Omega.{arith}
use native.Mathlib.Nat.{zero-add}
use lib.Dec.{eqb}
use lib.ListN.{length, length-append}
use lib.Seq.{sets-eq}
use borrow.Author.Tests.{le-leb, lt-leb, eq-eqb, ne_eqb}
use Rattle.std.specs.Prelude.{None, Some}
use Rattle.lines.specs.Decimal.{decimal_of}
use Rattle.lines.specs.Report.{field, verdict_line, counts_line, report_of, fits, count_in, written_in, Put}
use Rattle.lines.specs.Results.{placed_in}

-- the length of a word and a number
pub field_length : (word : List ℕ) (n : ℕ) → length (field word n) ≡ length word + length (decimal_of n)
unfolding field
field_length word n = length-append word (decimal_of n)

-- of the first line
pub verdict_length : (v i : ℕ) → length (verdict_line v i) ≡ 15 + length (decimal_of v) + length (decimal_of i)
unfolding verdict_line
verdict_length v i = simp (length-append, field_length) (omega arith)

-- of the second
pub counts_length : (v a n s : ℕ)
    → length (counts_line v a n s) ≡ 33 + length (decimal_of v) + length (decimal_of a) + length (decimal_of n) + length (decimal_of s)
unfolding counts_line
counts_length v a n s = simp (length-append, field_length) (omega arith)

-- a refusal's report
pub report_refused : (v i a b c d : ℕ) → (v ≡ 0 → ⊥) → report_of v i a b c d ≡ verdict_line v i
unfolding report_of
report_refused v i a b c d h = rw (ne_eqb v 0 h) (append-nil (verdict_line v i))

-- an accepted file's report
pub report_accepted : (v i a b c d : ℕ) → v ≡ 0 → report_of v i a b c d ≡ verdict_line v i ++ counts_line a b c d
unfolding report_of
report_accepted v i a b c d h = rw (eq-eqb v 0 h)

-- its length
pub length-refused : (v i a b c d : ℕ) → (v ≡ 0 → ⊥) → length (report_of v i a b c d) ≡ 15 + length (decimal_of v) + length (decimal_of i)
length-refused v i a b c d h =
    rw (report_refused v i a b c d h) (verdict_length v i)

-- an accepted file's
pub length-accepted : (v i a b c d : ℕ) → v ≡ 0
    → length (report_of v i a b c d)
    ≡ 48 + length (decimal_of v) + length (decimal_of i) + length (decimal_of a) + length (decimal_of b) + length (decimal_of c) + length (decimal_of d)
length-accepted v i a b c d h =
    rw (report_accepted v i a b c d h)
    (omega (arith, length-append (verdict_line v i) (counts_line a b c d), verdict_length v i, counts_length a b c d))

-- the first line stands in every report
pub verdict_within : (v i a b c d : ℕ) → length (verdict_line v i) ≤ length (report_of v i a b c d)
unfolding report_of
verdict_within v i a b c d = omega (arith, length-append (verdict_line v i) (cond (eqb v 0) (counts_line a b c d) []))

-- a text that was stored from the start on
pub written : {l text : List ℕ} {r : ℕ} {m : List ℕ} → length text ≤ length l → Put l 0 text r m
    → (Some r ≡ placed_in text l) × (m ≡ written_in text l)
unfolding fits count_in placed_in written_in
written {l} {text} {r} {m} h p =
    rw (le-leb (length text) (length l) h)
    (ap Some (p.ends ∙ zero-add (length text)), p.stored ∙ sets-eq text l 0 (omega arith) ∙ rw (zero-add (length text)))

-- a text that has no room
pub unwritten : (text l : List ℕ) → length l < length text → (None ≡ placed_in text l) × (l ≡ written_in text l)
unfolding fits count_in placed_in written_in
unwritten text l h = rw (lt-leb (length text) (length l) h) (refl, refl)
