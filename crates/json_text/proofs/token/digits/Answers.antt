-- `json_text::token::digits` meets its contract.
-- Assumes nothing.
use Rattle.std.proofs.Common.{◌≡◌, length, arith}
use Rattle.json_text.specs.Faults.Not.{not_end, not_head}
use Rattle.json_text.specs.Grammar.Digits.{digits_none, digits_more}
use Rattle.json_text.proofs.Laws.{told, untold}
use Rattle.json_text.proofs.Marks.{split, past}
use Rattle.json_text.proofs.token.digits.Goals as goal

pub returns-then-not-is_digit : goal.returns-then-not-is_digit
returns-then-not-is_digit c =
    let l = c.loop-i in
    record {
      within = l.invariant.0;
      run = l.invariant.1 _ (_, digits_none);
      stop = rw (split c.args.s.now l.i c.loop-i-test.true)
          (not_head (untold c.is_digit.ensures c.if-not-is_digit.true));
    }

pub loop-i-preserved : goal.loop-i-preserved
loop-i-preserved c =
    let l = c.loop-i in (
      omega arith,
      λ r m. l.invariant.1 r
          (rw (split c.args.s.now l.i c.loop-i-test.true)
          (_, digits_more (told c.is_digit.ensures c.if-not-is_digit.false) m.1)),
    )

pub returns : goal.returns
returns c =
    let l = c.loop-i in
    let e : l.i ≡ length c.args.s.now = omega arith in
    rw (← e)
    (record {
      within = l.invariant.0;
      run = l.invariant.1 _ (_, digits_none);
      stop = rw (past c.args.s.now l.i (omega arith)) not_end;
    })
