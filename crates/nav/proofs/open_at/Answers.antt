-- `nav::open_at` meets its contract.
-- Assumes nothing.
use Prim.Native.Nat.{◌+◌}
use Rattle.nav.specs.Steps.Opens.{opens}
use Rattle.nav.specs.Steps.OpenTo.{open_more, open_end, open_bad}
use Rattle.json_text.proofs.Ends.{ws_said}
use Rattle.nav.proofs.Scanned.{is_byte, no_byte, not_true, not_false}
use Rattle.nav.proofs.Steps.{front_here, front_other}
use Rattle.nav.proofs.open_at.Goals as goal

pub returns-then-ne : goal.returns-then-ne
returns-then-ne c =
    open_bad (front_other c.args.bracket _ c.front.ensures
    (no_byte _ c.args.bracket (not_true _ c.ne.ensures c.if-ne.true)))

pub returns-then-eq : goal.returns-then-eq
returns-then-eq c =
    let a = c.args in
    let h = front_here a.bracket a.s.now a.at c.front.ensures (is_byte _ a.bracket (not_false _ c.ne.ensures c.if-ne.false)) in
    let w = ws_said a.s.now (a.at + 1) c.past_ws-q.ensures in
    let k = front_here a.close a.s.now c.past_ws-q.result c.front-2.ensures (is_byte _ a.close (rw c.eq.ensures at c.if-eq.true)) in
    open_end k.next h.split (rw k.split at w.1)

pub returns-else-eq : goal.returns-else-eq
returns-else-eq c =
    let a = c.args in
    let h = front_here a.bracket a.s.now a.at c.front.ensures (is_byte _ a.bracket (not_false _ c.ne.ensures c.if-ne.false)) in
    let w = ws_said a.s.now (a.at + 1) c.past_ws-q.ensures in
    let f = front_other a.close _ c.front-2.ensures (no_byte _ a.close (rw c.eq.ensures at c.if-eq.false)) in
    open_more w.0 (rw h.split (opens w.1 w.2 f))
