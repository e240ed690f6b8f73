-- `json_text::value::opened` meets its contract.
-- Assumes nothing.
use Rattle.std.proofs.Common.{arith}
use Rattle.json_text.proofs.Laws.{byte, peeked_not, ended, is_same}
use Rattle.json_text.proofs.value.opened.Goals as goal

pub returns-in-Some-eq91 : goal.returns-in-Some-eq91
returns-in-Some-eq91 c =
    let h = byte 0x5b c.in-Some-eq91.ensures c.in-Some-eq91.field-0-test (omega arith) in (h.within, h.split)

pub returns-in-Some-eq123 : goal.returns-in-Some-eq123
returns-in-Some-eq123 c =
    let h = byte 0x7b c.in-Some-eq123.ensures c.in-Some-eq123.field-0-test (omega arith) in (h.within, h.split)

pub returns-in_default : goal.returns-in_default
returns-in_default c =
    let t = c.in_default.field-0-test in
    let p = c.in_default.ensures in
    (peeked_not p (λ i. t.0.1 (is_same i)), peeked_not p (λ i. t.1 (is_same i)))

pub returns-in_default-2 : goal.returns-in_default-2
returns-in_default-2 c = (ended c.peek.ensures c.in_default.is, ended c.peek.ensures c.in_default.is)
