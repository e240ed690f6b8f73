-- `json_text::value::scalar` meets its contract.
-- Assumes nothing.
use Rattle.std.proofs.Common.{◌≡◌, ℕ, refl, arith}
use Rattle.json_text.specs.Grammar.{Digit}
use Rattle.json_text.specs.Grammar.Scalar.{sc_null, sc_true, sc_false, sc_number, sc_string}
use Rattle.json_text.specs.Faults.{Starts}
use Rattle.json_text.specs.Faults.Starts.{starts_null, starts_true, starts_false, starts_minus, starts_string}
use Rattle.json_text.specs.Faults.Starts.{starts_number}
use Rattle.json_text.specs.Faults.Stop.{stop_null, stop_true, stop_false, stop_string}
use Rattle.json_text.specs.Faults.NumberTo.{to_plain, to_minus}
use Rattle.json_text.specs.Faults.NoScalar.{sc_bad, sc_in_null, sc_in_true, sc_in_false, sc_in_number, sc_in_minus}
use Rattle.json_text.specs.Faults.NoScalar.{sc_in_string}
use Rattle.json_text.specs.Scans.Says.{says_broke}
use Rattle.json_text.proofs.Laws.{byte, here, peeked_not, untold, ended, says_as}
use Rattle.json_text.specs.Numbers.{number_plain, stops}
use Rattle.json_text.proofs.value.scalar.Goals as goal

other : (b : ℕ) → (b ≡ 0x6e → ⊥) → (b ≡ 0x22 → ⊥) → (b ≡ 0x74 → ⊥) → (b ≡ 0x66 → ⊥) → (b ≡ 0x2d → ⊥) → (Digit b → ⊥) →
    Starts b → ⊥
other _ f g h i j k starts_null = f refl
other _ f g h i j k starts_string = g refl
other _ f g h i j k starts_true = h refl
other _ f g h i j k starts_false = i refl
other _ f g h i j k starts_minus = j refl
other _ f g h i j k (starts_number d) = k d

pub returns-in-Some-eq110 : goal.returns-in-Some-eq110
returns-in-Some-eq110 c =
    let h = byte 0x6e c.in-Some-eq110.ensures c.in-Some-eq110.field-0-test (omega arith) in
    rw h.split
    (says_as (λ r k. (_, sc_null k, stop_null)) (λ f r k. sc_in_null k) c.literal.ensures)

pub returns-in-Some-eq34 : goal.returns-in-Some-eq34
returns-in-Some-eq34 c =
    let h = byte 0x22 c.in-Some-eq34.ensures c.in-Some-eq34.field-0-test (omega arith) in
    rw h.split
    (says_as (λ r k. (_, sc_string k.1, stop_string)) (λ f r k. sc_in_string k) c.chars.ensures)

pub returns-in-Some-eq116 : goal.returns-in-Some-eq116
returns-in-Some-eq116 c =
    let h = byte 0x74 c.in-Some-eq116.ensures c.in-Some-eq116.field-0-test (omega arith) in
    rw h.split
    (says_as (λ r k. (_, sc_true k, stop_true)) (λ f r k. sc_in_true k) c.literal-in-Some-eq116.ensures)

pub returns-in-Some-eq102 : goal.returns-in-Some-eq102
returns-in-Some-eq102 c =
    let h = byte 0x66 c.in-Some-eq102.ensures c.in-Some-eq102.field-0-test (omega arith) in
    rw h.split
    (says_as (λ r k. (_, sc_false k, stop_false)) (λ f r k. sc_in_false k) c.literal-in-Some-eq102.ensures)

pub returns-in-Some-eq45 : goal.returns-in-Some-eq45
returns-in-Some-eq45 c =
    let h = byte 0x2d c.in-Some-eq45.ensures c.in-Some-eq45.field-0-test (omega arith) in
    rw h.split
    (says_as (λ r k. (_, sc_number (number_plain (to_minus k.1)), stops (to_minus k.1))) (λ f r k. sc_in_minus k) c.magnitude.ensures)

pub returns-in-Some : goal.returns-in-Some
returns-in-Some c =
    let h = here Digit (λ d. omega arith) c.in-Some.ensures c.is_digit.ensures c.if-is_digit.true in
    says_as (λ r k. (_, sc_number (number_plain (to_plain k.1)), stops (to_plain k.1)))
    (λ f r k. rw h.split (sc_in_number h.is (rw h.split at k))) c.magnitude-in-Some.ensures

pub returns-in_default : goal.returns-in_default
returns-in_default c =
    let t = c.in-Some.b-test in
    let n = other _ t.0.0.0.0.1 t.0.0.0.1 t.0.0.1 t.0.1 t.1 (untold c.is_digit.ensures c.if-is_digit.false) in
    says_broke c.requires (sc_bad (peeked_not c.in-Some.ensures n))

pub returns-in_default-2 : goal.returns-in_default-2
returns-in_default-2 c = says_broke c.requires (sc_bad (ended c.peek.ensures c.in_default.is))
