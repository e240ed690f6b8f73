-- What a scan's answer and the byte at a place say.
-- Assumes nothing.
use Prim.Native.Nat.{ℕ}
use native.Mathlib.Omega.{arith}
use mathlib.Core.Path.{◌≡◌, refl, ap, sym, ◌∙◌}
use mathlib.Core.Bool.{Bool, true, false, not, true≢false}
use mathlib.Core.List.{List, [], ◌∷◌}
use lib.Dec.{eqb}
use borrow.Author.Tests.{eqb-true, eqb-false}
use Rattle.std.specs.Prelude.{Option, Some, None, Result, Ok, Err}
use Rattle.std.specs.Option.{option_eq}
use Rattle.std.specs.Result.{result_ok}
use Rattle.std.proofs.lemmas.Option.{none-some}
use Rattle.json_text.specs.declared.error.ScanError.{ScanError}
use Rattle.json_text.specs.Faults.{Fault}
use Rattle.json_text.specs.Faults.Fault.{broke, deep}
use Rattle.json_text.specs.Scans.{Says}
use Rattle.json_text.specs.Scans.Says.{says_past, says_broke, says_deep}
use Rattle.json_text.specs.Answer.{first}
use Rattle.nav.specs.Results.{front_of}

-- one byte or place
pub same_byte : {a b : ℕ} → ◌≡◌ {A = Option ℕ} (Some a) (Some b) → a ≡ b
same_byte e = ap value e
  where
    value : Option ℕ → ℕ
    value None = 0
    value (Some b) = b

-- a scan that fails has a fault
pub failed : {s : List ℕ} {Yes : List ℕ → Type 0} {No : Fault → List ℕ → Type 0} {o : Result ℕ ScanError} {e : ScanError} →
    Says s Yes No o → o ≡ Err e → (f : Fault) × (r : List ℕ) × No f r
failed (says_past l k) q = absurd (let z : ◌≡◌ {A = ℕ} 0 1 = cc in omega arith)
failed (says_broke l k) q = (broke, _, k)
failed (says_deep l k) q = (deep, _, k)

-- a scan's answer by `ok`
pub ok_some : (o : Result ℕ ScanError) {r : Option ℕ} {p : ℕ} → r ≡ result_ok o → r ≡ Some p → o ≡ Ok p
ok_some (Ok q) e d = ap Ok (same_byte (sym e ∙ d))
ok_some (Err x) {p = p} e d = absurd (none-some p (sym e ∙ d))

pub ok_none : (o : Result ℕ ScanError) {r : Option ℕ} → r ≡ result_ok o → r ≡ None → (e : ScanError) × (o ≡ Err e)
ok_none (Ok q) e d = absurd (none-some q (sym d ∙ e))
ok_none (Err x) e d = (x, refl)

-- a byte that is compared with k
pub is_byte : (o : Option ℕ) (k : ℕ) → option_eq eqb o (Some k) ≡ true → o ≡ Some k
is_byte None k e = absurd (true≢false (sym e))
is_byte (Some b) k e = ap Some (eqb-true b k e)

pub no_byte : (o : Option ℕ) (k : ℕ) → option_eq eqb o (Some k) ≡ false → o ≡ Some k → ⊥
no_byte None k e d = none-some k d
no_byte (Some b) k e d = eqb-false b k e (same_byte d)

-- and by `!=`
pub not_true : {r : Bool} (b : Bool) → r ≡ not b → r ≡ true → b ≡ false
not_true true e d = absurd (true≢false (sym d ∙ e))
not_true false e d = refl

pub not_false : {r : Bool} (b : Bool) → r ≡ not b → r ≡ false → b ≡ true
not_false true e d = refl
not_false false e d = absurd (true≢false (sym e ∙ d))

-- the byte that comes first, or 256 at the end
pub first_is : (w : List ℕ) {o : Option ℕ} {b : ℕ} → o ≡ front_of w → o ≡ Some b → first w ≡ b
first_is [] {b = b} e d = absurd (none-some b (sym e ∙ d))
first_is (a ∷ w) e d = same_byte (sym e ∙ d)

pub first_none : (w : List ℕ) {o : Option ℕ} → o ≡ front_of w → o ≡ None → first w ≡ 256
first_none [] e d = refl
first_none (a ∷ w) e d = absurd (none-some a (sym d ∙ e))
