-- Integers at places: what a value's bytes spell.
-- Assumes nothing.
use Prim.Native.Nat.{ℕ, zero, suc, ◌+◌, ◌*◌, ◌-◌, ◌≤◌, ◌<◌}
use native.Mathlib.Omega.{arith}
use native.Mathlib.Numerals.{add-one}
use mathlib.Core.Path.{◌≡◌, refl, ap, ◌∙◌}
use mathlib.Core.Bool.{Bool, true, false, cond, ◌&&◌}
use mathlib.Core.List.{List, [], ◌∷◌}
use lib.Dec.{leb}
use lib.ListN.{length, drop, take, get_or, length-append, length-drop, drop_of_length-le}
use lib.Seq.{drop-cons, take_at}
use borrow.Author.Tests.{le-leb, lt-leb, leb-true, leb-false}
use Rattle.std.specs.Char.{is_ascii_digit}
use Rattle.laws.proofs.Tests.{by_test, and-true}
use Rattle.std.specs.Prelude.{Option, Some, None}
use Rattle.json_text.specs.Tree.{Json}
use Rattle.json_text.specs.Grammar.{Value}
use Rattle.json_text.specs.Grammar.Scalar.{sc_null, sc_true, sc_false, sc_number, sc_string}
use Rattle.json_text.specs.Grammar.Value.{val_scalar, val_array0, val_array, val_object0, val_object}
use Rattle.json_text.specs.Faults.{Fault, NoValue}
use Rattle.json_text.specs.Lengths.{value_shorter}
use Rattle.json_text.specs.Numbers.{number_spelled}
use Rattle.json_text.specs.Scans.{ValueOk}
use Rattle.json_text.specs.Parse.{tree_at}
use Rattle.nav.specs.Integers.{decimal, spelled, integer_of, integer_at}
use Rattle.nav.specs.Words.{digits}
use Rattle.json_text.proofs.Laws.{later}
use Rattle.nav.proofs.Standing.{stands_of, stands_tree, none_tree, no_stands}

-- the same digit by digit: the integer that n, and then a spelling, are
unfoldable pub integer_from : ℕ → List ℕ → Option ℕ
integer_from n [] = Some n
integer_from n (d ∷ ds) =
    cond (leb 0x30 d && leb d 0x39 && leb (10 * n + (d - 0x30)) 4294967295) (integer_from (10 * n + (d - 0x30)) ds) None

-- a number does not fall with its digits
decimal_grows : (n : ℕ) (ds : List ℕ) → n ≤ decimal n ds
unfolding decimal
decimal_grows n [] = omega arith
decimal_grows n (d ∷ ds) = omega (arith, decimal_grows (10 * n + (d - 0x30)) ds)

-- what is not both is not
not_both : (b : Bool) {c : Bool} → c ≡ false → (b && c) ≡ false
not_both true e = e
not_both false e = refl

-- digit by digit it is the same
from_is : (n : ℕ) (ds : List ℕ) → n ≤ 4294967295 →
    integer_from n ds ≡ cond (digits ds && leb (decimal n ds) 4294967295) (Some (decimal n ds)) None
unfolding integer_from decimal
from_is n [] l = rw (le-leb n 4294967295 l)
from_is n (d ∷ ds) l =
    let m = 10 * n + (d - 0x30) in
    by_test (leb 0x30 d && leb d 0x39)
    (λ e. rw e (by_test (leb m 4294967295)
    (λ h. rw h (from_is m ds (leb-true m 4294967295 h)))
    (λ h. rw (
      h,
      not_both (digits ds) (lt-leb (decimal m ds) 4294967295
          (omega (arith, decimal_grows m ds, leb-false m 4294967295 h))),
    ))))
    (λ e. rw e)

-- so the spelling is read from 0 on
pub from_zero : (ds : List ℕ) → integer_from 0 ds ≡ spelled ds
unfolding spelled
from_zero ds = from_is 0 ds (omega arith)

-- a digit with which the number is not too large
pub from_on : (n d : ℕ) (ds : List ℕ) → 0x30 ≤ d → d ≤ 0x39 → 10 * n + (d - 0x30) ≤ 4294967295 →
    integer_from n (d ∷ ds) ≡ integer_from (10 * n + (d - 0x30)) ds
unfolding integer_from
from_on n d ds a b h = rw (le-leb 0x30 d a, le-leb d 0x39 b, le-leb (10 * n + (d - 0x30)) 4294967295 h)

-- a byte that is no digit
pub from_other : (n d : ℕ) (ds : List ℕ) → is_ascii_digit d ≡ false → integer_from n (d ∷ ds) ≡ None
unfolding integer_from
from_other n d ds e = rw e

-- a byte that is one
pub digit_is : (d : ℕ) → is_ascii_digit d ≡ true → (0x30 ≤ d) × (d ≤ 0x39)
digit_is d e = let u = and-true (leb 0x30 d) (leb d 0x39) e in (leb-true 0x30 d u.0, leb-true d 0x39 u.1)

-- the byte at a place, and those behind it
pub from_at : (s : List ℕ) (i n : ℕ) {r : Option ℕ} → i < length s → integer_from n (drop i s) ≡ r →
    integer_from n (get_or s i 0 ∷ drop (i + 1) s) ≡ r
from_at s i n l e =
    let d : drop i s ≡ get_or s i 0 ∷ drop (i + 1) s = rw (add-one, drop-cons s i 0 l) in
    rw d at e

-- and no byte at the end
pub from_end : (s : List ℕ) (i n : ℕ) → length s ≤ i → integer_from n (drop i s) ≡ Some n
unfolding integer_from
from_end s i n l = rw (drop_of_length-le s {i = i} l)

-- a digit with which the number is too large
pub from_large : (n d : ℕ) (ds : List ℕ) → 0x30 ≤ d → d ≤ 0x39 → 4294967295 < 10 * n + (d - 0x30) →
    integer_from n (d ∷ ds) ≡ None
unfolding integer_from
from_large n d ds a b h =
    rw (le-leb 0x30 d a, le-leb d 0x39 b, lt-leb (10 * n + (d - 0x30)) 4294967295 h)

-- the n bytes of a value spell the integer that its tree is
value_spells : {w r : List ℕ} {j : Json} (n : ℕ) → Value w j r → length w ≡ n + length r →
    spelled (take n w) ≡ integer_of j
unfolding spelled integer_of
value_spells zero v e = absurd (omega (arith, value_shorter v))
value_spells (suc n) (val_scalar (sc_null h)) e = refl
value_spells (suc n) (val_scalar (sc_true h)) e = refl
value_spells (suc n) (val_scalar (sc_false h)) e = refl
value_spells (suc n) (val_scalar (sc_string h)) e = refl
value_spells {r = r} (suc n) (val_scalar (sc_number {ds = ds} h)) e =
    let q = number_spelled h in
    let k : length ds ≡ suc n = omega (arith, simp length-append at (ap length q)) in
    rw (q, ← k, take_at)
value_spells (suc n) (val_array0 h) e = refl
value_spells (suc n) (val_array a h) e = refl
value_spells (suc n) (val_object0 h) e = refl
value_spells (suc n) (val_object a h) e = refl

-- the integer that stands there
pub integer_of_lem : (s : List ℕ) (i p : ℕ) {r : Option ℕ} → p ≤ length s → ValueOk 32 (drop i s) (drop p s) →
    r ≡ spelled (take (p - i) (drop i s)) → r ≡ integer_at (tree_at 32 (drop i s))
integer_of_lem s i p h v e =
    let l = later s i p h (value_shorter v.1) in
    let k = value_spells (p - i) v.1 (simp length-drop (omega arith)) in
    rw (stands_tree (stands_of v)) (e ∙ k)

-- none where nothing stands
pub integer_none : {f : Fault} {w r : List ℕ} → NoValue 32 w f r → None ≡ integer_at (tree_at 32 w)
integer_none {w = w} k = rw (none_tree w (λ j t. no_stands k t))
