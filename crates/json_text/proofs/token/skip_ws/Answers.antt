-- `json_text::token::skip_ws` meets its contract.
-- Assumes nothing.
use Rattle.std.proofs.Common.{◌≡◌, length, arith}
use Rattle.json_text.specs.Faults.Not.{not_end, not_head}
use Rattle.json_text.specs.Grammar.Ws.{ws_none, ws_more}
use Rattle.json_text.proofs.Laws.{told, untold}
use Rattle.json_text.proofs.Marks.{split, past}
use Rattle.json_text.proofs.token.skip_ws.Goals as goal

pub returns-then-not-is_ws : goal.returns-then-not-is_ws
returns-then-not-is_ws c =
    let l = c.loop-i in
    record {
      from = omega arith;
      within = l.invariant.0;
      run = l.invariant.1 _ ws_none;
      stop = rw (split c.args.s.now l.i c.loop-i-test.true) (not_head (untold c.is_ws.ensures c.if-not-is_ws.true));
    }

pub loop-i-preserved : goal.loop-i-preserved
loop-i-preserved c =
    let l = c.loop-i in (
      omega arith,
      λ r m. l.invariant.1 r
          (rw (split c.args.s.now l.i c.loop-i-test.true) (ws_more (told c.is_ws.ensures c.if-not-is_ws.false) m)),
    )

pub returns : goal.returns
returns c =
    let l = c.loop-i in
    let e : l.i ≡ length c.args.s.now = omega arith in
    rw (← e)
    (record {
      from = omega arith;
      within = l.invariant.0;
      run = l.invariant.1 _ ws_none;
      stop = rw (past c.args.s.now l.i (omega arith)) not_end;
    })
