-- `json_text::places::past_ws` meets its contract.
-- Assumes nothing.
use mathlib.Core.Path.{sym}
use Rattle.json_text.proofs.Answers.{position, past}
use Rattle.json_text.proofs.places.past_ws.Goals as goal

pub returns : goal.returns
returns c =
    let w = c.skip_ws.ensures in
    position c.args.s.now _ _ w.within
    (sym (past (rw c.clamp.ensures.same at w.run) w.stop))
