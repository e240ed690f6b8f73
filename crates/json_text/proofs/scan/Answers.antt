-- `json_text::scan` meets its contract.
-- Assumes nothing.
use Rattle.std.proofs.Common.{Err, refl, sym, ap, ◌∙◌, arith}
use Rattle.json_text.specs.declared.error.ScanError.TheVariants.{Broke}
use Rattle.json_text.specs.Parse.{text_run}
use Rattle.json_text.proofs.Laws.{found, unfound}
use Rattle.json_text.proofs.Answers.{position, agree, scan_brace, scan_other}
use Rattle.json_text.proofs.scan.Goals as goal

pub returns-then-eq : goal.returns-then-eq
returns-then-eq c =
    let w = c.skip_ws-start.ensures in
    let h = found c.peek.result 0x7b (omega arith) c.peek.ensures c.eq.ensures c.if-eq.true in
    agree c.text.ensures (text_run 32 _) ∙ sym (scan_brace 32 (rw h.split at w.run) (rw h.split at w.stop))

pub returns : goal.returns
returns c =
    let w = c.skip_ws-start.ensures in
    let f = unfound c.peek.result 0x7b c.peek.ensures c.eq.ensures c.if-eq.false in
    ap Err (ap Broke (position c.args.s.now _ _ w.within refl)) ∙ sym (scan_other 32 w.run w.stop f)
