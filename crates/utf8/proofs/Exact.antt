-- Rule 9 is exact: the function's answer says what RFC 3629 says of the bytes.
-- Assumes nothing.
use Prim.Native.Nat.{ℕ, ◌<◌}
use native.Mathlib.Omega.{arith}
use mathlib.Core.Path.{◌≡◌}
use mathlib.Core.List.{List, []}
use borrow.Author.Tests.{eqb-true, eqb-false}
use lib.Dec.{eqb}
use lib.ListN.{length, drop, length-drop, drop_of_length-le}
use Rattle.laws.proofs.Tests.{by_test}
use Rattle.utf8.specs.Utf8.{whole_of, utf8_of}
use Rattle.utf8.specs.Exact.{LongestWhole, Utf8Says}
use Rattle.utf8.specs.Exact.Utf8Says.{says_whole, says_ends}
use Rattle.utf8.proofs.Whole.{ending, whole_most}

-- the function's start is the longest
longest : (s : List ℕ) → LongestWhole s (whole_of s)
longest s = record { whole = (ending s).whole; longest = λ q m o. omega (arith, whole_most o, length-drop q s) }

-- `Ok` exactly where s is UTF8-octets, and otherwise the longest start of s that is
pub utf8_exact : (s : List ℕ) → Utf8Says s (utf8_of s)
unfolding utf8_of
utf8_exact s =
    by_test (eqb (whole_of s) (length s))
    (λ e.
    let k = eqb-true (whole_of s) (length s) e in
    let d : drop (whole_of s) s ≡ [] = drop_of_length-le s {i = whole_of s} (omega arith) in
    rw e (says_whole (rw d at (ending s).whole)))
    (λ e.
    let k : whole_of s ≡ length s → ⊥ = eqb-false (whole_of s) (length s) e in
    let l : whole_of s < length s = omega (arith, (ending s).fits) in
    rw e (says_ends (λ o. omega (arith, whole_most o)) l (longest s)))
