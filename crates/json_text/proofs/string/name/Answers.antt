-- `json_text::string::name` meets its contract.
-- Assumes nothing.
use Rattle.std.proofs.Common.{refl, arith}
use Rattle.json_text.specs.Grammar.Name.{name}
use Rattle.json_text.specs.Faults.NoName.{name_bad, name_in, name_after}
use Rattle.json_text.specs.Scans.Says.{says_past, says_broke}
use Rattle.json_text.proofs.Laws.{found_same, found_other, said_past, passed}
use Rattle.json_text.proofs.string.name.Goals as goal

pub returns-then-ne : goal.returns-then-ne
returns-then-ne c =
    says_broke c.requires (name_bad (found_other c.peek.result _ c.peek.ensures c.ne.ensures c.if-ne.true))

pub returns-then-ne-2 : goal.returns-then-ne-2
returns-then-ne-2 c =
    let h = found_same c.peek.result 0x22 (omega arith) c.peek.ensures c.ne.ensures c.if-ne.false in
    let e = said_past c.in_ok-past.ensures refl in
    let w = c.skip_ws-colon.ensures in
    let n = found_other c.peek-2.result 0x3a c.peek-2.ensures c.ne-2.ensures c.if-ne-2.true in
    rw h.split (says_broke w.within (name_after e.1.1 w.run w.stop n))

pub returns : goal.returns
returns c =
    let h = found_same c.peek.result 0x22 (omega arith) c.peek.ensures c.ne.ensures c.if-ne.false in
    let e = said_past c.in_ok-past.ensures refl in
    let k = found_same c.peek-2.result 0x3a (omega arith) c.peek-2.ensures c.ne-2.ensures c.if-ne-2.false in
    let v = c.skip_ws.ensures in
    rw h.split (says_past v.within (_, name e.1.1 (rw k.split at c.skip_ws-colon.ensures.run) v.run, v.stop))

pub returns-in_err-past : goal.returns-in_err-past
returns-in_err-past c =
    let h = found_same c.peek.result 0x22 (omega arith) c.peek.ensures c.ne.ensures c.if-ne.false in
    rw h.split (passed _ c.from_residual.ensures.1 c.in_err-past.ensures (λ f r m. name_in m))
