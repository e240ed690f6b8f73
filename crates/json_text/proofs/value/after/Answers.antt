-- `json_text::value::after` meets its contract.
-- Assumes nothing.
use Rattle.std.proofs.Common.{ℕ, List, arith}
use Rattle.json_text.specs.Grammar.{IsWs}
use Rattle.json_text.specs.Faults.{Not, Is, Follows}
use Rattle.json_text.specs.Faults.Not.{not_end, not_head}
use Rattle.json_text.specs.Faults.Is.{is}
use Rattle.json_text.specs.Faults.Follows.{follows_ws, follows_comma, follows_close}
use Rattle.json_text.specs.Scans.AfterSaid.{after_more, after_end, after_bad}
use Rattle.json_text.proofs.Laws.{byte, peeked_not, ended, is_same}
use Rattle.json_text.proofs.value.after.Goals as goal

pub returns-in-Some : goal.returns-in-Some
returns-in-Some c =
    let h = byte c.args.close c.in-Some.ensures c.if-b-close.true (omega arith) in
    after_end (record { within = h.next; run = rw h.split at c.skip_ws-past.ensures.run })

pub returns-in-Some-eq44 : goal.returns-in-Some-eq44
returns-in-Some-eq44 c =
    let h = byte 0x2c c.in-Some-eq44.ensures c.in-Some-eq44.field-0-test (omega arith) in
    let w = c.skip_ws-past.ensures in
    let v = c.skip_ws.ensures in
    after_more {p = c.skip_ws.result}
    (record {
      late = omega arith;
      within = v.within;
      rest = _;
      comma = rw h.split at w.run;
      run = v.run;
      stop = v.stop;
    })

one : {close b : ℕ} → (IsWs b → ⊥) → (Is close b → ⊥) → (Is 0x2c b → ⊥) → Follows close b → ⊥
one f g h (follows_ws w) = f w
one f g h follows_comma = h is
one f g h follows_close = g is

none : {close : ℕ} {w : List ℕ} → Not IsWs w → Not (Is close) w → Not (Is 0x2c) w → Not (Follows close) w
none not_end not_end not_end = not_end
none (not_head f) (not_head g) (not_head h) = not_head (one f g h)

pub returns-in_default : goal.returns-in_default
returns-in_default c =
    let w = c.skip_ws-past.ensures in
    let p = c.in-Some.ensures in
    after_bad
    (record {
      within = w.within;
      run = w.run;
      stop = none w.stop (peeked_not p (λ i. c.if-b-close.false (is_same i)))
          (peeked_not p (λ i. c.in-Some.b-test.1 (is_same i)));
    })

pub returns-in_default-2 : goal.returns-in_default-2
returns-in_default-2 c =
    let w = c.skip_ws-past.ensures in
    let p = c.peek.ensures in
    after_bad
    (record {
      within = w.within;
      run = w.run;
      stop = none w.stop (ended p c.in_default.is) (ended p c.in_default.is);
    })
