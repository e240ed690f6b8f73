-- List records and packed lists whose numbers are u16. Assumes nothing.
use Prim.Native.Nat.{ℕ, ◌≤◌}
use mathlib.Core.Path.{◌≡◌}
use mathlib.Core.List as L
use native.Mathlib.Omega.{arith}
use borrow.Author.Tests.{ltb-true, ltb-false}
use lib.Dec.{ltb}
use lib.ListN.{length, get_or-eq_default}
use Rattle.std.specs.List.{All}
use Rattle.laws.proofs.Tests.{by_test}
use Rattle.tables.specs.declared.List.{List}
use Rattle.tables.specs.Records.{no_list}
use Rattle.device.specs.Meaning.{Lists, Shorts}

-- the numbers of one record
abbrev pub Small : List → Type 0
Small r = (r.start ≤ 65535) × (r.length ≤ 65535)

-- past the last there are zeros
pub lists_of : (n : ℕ) (rs : L.List List) → length rs ≡ n → All Small rs → Lists n rs
lists_of n rs e h =
    let all = λ (j : ℕ). by_test (ltb j (length rs)) (λ t. h j no_list (ltb-true j (length rs) t))
    (λ t. rw (get_or-eq_default rs no_list {n = j} (ltb-false j (length rs) t)) (omega arith, omega arith)) in
    record { many = e; starts = λ j. (all j).0; lengths = λ j. (all j).1 }

pub shorts_of : (n : ℕ) (xs : L.List ℕ) → length xs ≡ n → All (λ x. x ≤ 65535) xs → Shorts n xs
shorts_of n xs e h =
    record {
      many = e;
      fit = λ j. by_test (ltb j (length xs)) (λ t. h j 0 (ltb-true j (length xs) t))
          (λ t. rw (get_or-eq_default xs 0 {n = j} (ltb-false j (length xs) t)) (omega arith));
    }
