-- `json_text::number::tail` meets its contract.
-- Assumes nothing.
use Rattle.std.proofs.Common.{drop, refl, arith}
use Rattle.json_text.specs.Faults.{Not, Is}
use Rattle.json_text.specs.Faults.FracTo.{to_frac_none, to_frac_some}
use Rattle.json_text.specs.Faults.TailTo.{to_tail}
use Rattle.json_text.specs.Faults.NoTail.{tail_in_frac, tail_in_exp}
use Rattle.json_text.proofs.Laws.{byte, peeked_not, ended, is_same, says_as, said_past, passed}
use Rattle.json_text.proofs.number.tail.Goals as goal
use Rattle.json_text.proofs.number.tail.Goals.{in_default-via-in-Some+in_default, in_default-via-in_default}

pub returns-in_ok-some-in-Some-eq46 : goal.returns-in_ok-some-in-Some-eq46
returns-in_ok-some-in-Some-eq46 c =
    let h = byte 0x2e c.in-Some-eq46.ensures c.in-Some-eq46.field-0-test (omega arith) in
    let e = said_past c.in_ok-some-in-Some-eq46.ensures refl in
    rw h.split
    (says_as (λ r m. (_, to_tail (to_frac_some e.1.1) m.1)) (λ f r m. tail_in_exp (to_frac_some e.1.1) m)
    c.exponent.ensures)

pub returns-in_err-some-in-Some-eq46 : goal.returns-in_err-some-in-Some-eq46
returns-in_err-some-in-Some-eq46 c =
    let h = byte 0x2e c.in-Some-eq46.ensures c.in-Some-eq46.field-0-test (omega arith) in
    rw h.split (passed _ c.from_residual.ensures.1 c.in_err-some-in-Some-eq46.ensures (λ f r m. tail_in_frac m))

pub returns-in_default : goal.returns-in_default
returns-in_default c =
    let n : Not (Is 0x2e) (drop c.args.at c.args.s.now) = elim c.in_default.branch [
      | in_default-via-in-Some+in_default w ↦ peeked_not w.in_default.ensures (λ i. w.in_default.field-0-test.1 (is_same i))
      | in_default-via-in_default w ↦ ended c.peek.ensures w.in_default.is
    ] in
    says_as (λ r m. (_, to_tail (to_frac_none n) m.1)) (λ f r m. tail_in_exp (to_frac_none n) m)
    c.exponent-in_default.ensures
