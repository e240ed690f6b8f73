-- `json_text::number::magnitude` meets its contract.
-- Assumes nothing.
use Rattle.std.proofs.Common.{◌≤◌, arith}
use Rattle.json_text.specs.Grammar.{Digit}
use Rattle.json_text.specs.Faults.IntTo.{to_int_zero, to_int_more}
use Rattle.json_text.specs.Faults.MagnitudeTo.{to_magnitude}
use Rattle.json_text.specs.Faults.NoMagnitude.{mag_bad, mag_in_tail}
use Rattle.json_text.specs.Scans.Says.{says_broke}
use Rattle.json_text.proofs.Laws.{byte, here, not_here, ended, says_as}
use Rattle.json_text.proofs.number.magnitude.Goals as goal

pub returns-in-Some-eq48 : goal.returns-in-Some-eq48
returns-in-Some-eq48 c =
    let h = byte 0x30 c.in-Some-eq48.ensures c.in-Some-eq48.field-0-test (omega arith) in
    rw h.split
    (says_as (λ r m. (_, to_magnitude to_int_zero m.1)) (λ f r m. mag_in_tail to_int_zero m) c.tail.ensures)

pub returns-in-Some : goal.returns-in-Some
returns-in-Some c =
    let h = here Digit (λ d. omega arith) c.in-Some.ensures c.is_digit.ensures c.if-is_digit.true in
    let l : 0x31 ≤ c.in-Some.b = omega (arith, c.in-Some.b-test.1) in
    let d = c.digits.ensures in
    rw h.split
    (says_as (λ r m. (_, to_magnitude (to_int_more (l, h.is.1) d.run.1 d.stop) m.1))
    (λ f r m. mag_in_tail (to_int_more (l, h.is.1) d.run.1 d.stop) m) c.tail-in-Some.ensures)

pub returns-in_default : goal.returns-in_default
returns-in_default c =
    says_broke c.requires (mag_bad (not_here Digit c.in-Some.ensures c.is_digit.ensures c.if-is_digit.false))

pub returns-in_default-2 : goal.returns-in_default-2
returns-in_default-2 c = says_broke c.requires (mag_bad (ended c.peek.ensures c.in_default.is))
