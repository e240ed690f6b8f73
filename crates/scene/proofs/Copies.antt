-- One field of each record, copied into a list of numbers.
-- Assumes nothing.
use Prim.Native.Nat.{ℕ, zero, suc, ◌+◌, ◌<◌}
use mathlib.Core.Path.{◌≡◌, refl, ap, ◌∙◌}
use mathlib.Core.List.{List, [], ◌∷◌, ◌++◌, map}
use native.Mathlib.Numerals.{add-one}
use native.Mathlib.Omega.{arith}
use lib.ListN.{get_or, set, length, take, drop}

-- f of the first i records, the numbers of d from there on
abbrev pub copied : {A : Type 0} → (A → ℕ) → List A → List ℕ → ℕ → List ℕ
copied f records d i = map f (take i records) ++ drop i d

set_next : {A : Type 0} (f : A → ℕ) (records : List A) (d : List ℕ) (r : A) (i : ℕ) → i < length records
    → length d ≡ length records → set (copied f records d i) i (f (get_or records i r)) ≡ copied f records d (suc i)
set_next f [] d r i h e = absurd (omega arith)
set_next f (x ∷ records) [] r i h e = absurd (omega arith)
set_next f (x ∷ records) (y ∷ d) r zero h e = refl
set_next f (x ∷ records) (y ∷ d) r (suc i) h e =
    ap {B = List ℕ} (λ ys. f x ∷ ys) (set_next f records d r i (omega arith) (omega arith))

-- one record more
pub copied_more : {A : Type 0} (f : A → ℕ) (records : List A) (d : List ℕ) (r : A) (i : ℕ) → i < length records
    → length d ≡ length records → set (copied f records d i) i (f (get_or records i r)) ≡ copied f records d (i + 1)
copied_more f records d r i h e = set_next f records d r i h e ∙ rw (add-one i) refl
