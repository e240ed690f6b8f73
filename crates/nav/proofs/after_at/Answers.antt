-- `nav::after_at` meets its contract.
-- Assumes nothing.
use native.Mathlib.Omega.{arith}
use Prim.Native.Nat.{◌+◌}
use mathlib.Core.Path.{◌≡◌, ap, sym, ◌∙◌}
use Rattle.std.specs.Prelude.{Some}
use Rattle.std.proofs.lemmas.Option.{none-some}
use Rattle.nav.specs.Steps.AfterTo.{after_more, after_end, after_bad}
use Rattle.json_text.proofs.Ends.{ws_said}
use Rattle.nav.proofs.Scanned.{same_byte}
use Rattle.nav.proofs.Steps.{front_here, front_neither}
use Rattle.nav.proofs.after_at.Goals as goal

pub returns-in-Some : goal.returns-in-Some
returns-in-Some c =
    let a = c.args in
    let w = ws_said a.s.now a.at c.past_ws-q.ensures in
    let h = front_here a.close a.s.now c.past_ws-q.result c.front.ensures (c.in-Some.is ∙ ap Some c.if-b-close.true) in
    after_end h.next (rw h.split at w.1)

pub returns-in-Some-eq44 : goal.returns-in-Some-eq44
returns-in-Some-eq44 c =
    let a = c.args in
    let w = ws_said a.s.now a.at c.past_ws-q.ensures in
    let h = front_here 0x2c a.s.now c.past_ws-q.result c.front.ensures
    (c.in-Some.is ∙ ap Some c.in-Some-eq44.field-0-test) in
    let v = ws_said a.s.now (c.past_ws-q.result + 1) c.past_ws.ensures in
    after_more v.0 (rw h.split at w.1) v.1 v.2

pub returns-in_default : goal.returns-in_default
returns-in_default c =
    let a = c.args in
    let w = ws_said a.s.now a.at c.past_ws-q.ensures in
    after_bad w.1 (front_neither _ c.front.ensures (λ e. c.if-b-close.false (same_byte (sym c.in-Some.is ∙ e)))
    (λ e. let h : c.in-Some.b ≡ 0x2c = same_byte (sym c.in-Some.is ∙ e) in omega arith) w.2)

pub returns-in_default-2 : goal.returns-in_default-2
returns-in_default-2 c =
    let a = c.args in
    let w = ws_said a.s.now a.at c.past_ws-q.ensures in
    after_bad w.1 (front_neither _ c.front.ensures (λ e. none-some _ (sym c.in_default.is ∙ e))
    (λ e. none-some _ (sym c.in_default.is ∙ e)) w.2)
