-- `json_text::number::some` meets its contract.
-- Assumes nothing.
use Rattle.std.proofs.Common.{arith}
use Rattle.json_text.specs.Grammar.{Digit}
use Rattle.json_text.specs.Faults.SomeTo.{to_some}
use Rattle.json_text.specs.Faults.NoSome.{some_bad}
use Rattle.json_text.specs.Scans.Says.{says_past, says_broke}
use Rattle.json_text.proofs.Laws.{here, not_here, ended}
use Rattle.json_text.proofs.number.some.Goals as goal

pub returns-in-Some : goal.returns-in-Some
returns-in-Some c =
    let h = here Digit (λ d. omega arith) c.in-Some.ensures c.is_digit.ensures c.if-is_digit.true in
    let d = c.digits.ensures in
    rw h.split (says_past d.within (_, to_some h.is d.run.1 d.stop))

pub returns-in_default : goal.returns-in_default
returns-in_default c =
    says_broke c.requires (some_bad (not_here Digit c.in-Some.ensures c.is_digit.ensures c.if-is_digit.false))

pub returns-in_default-2 : goal.returns-in_default-2
returns-in_default-2 c = says_broke c.requires (some_bad (ended c.peek.ensures c.in_default.is))
