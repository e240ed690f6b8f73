-- `json_text::places::digits_at` meets its contract.
-- Assumes nothing.
use Rattle.json_text.proofs.Ends.{digits_is}
use Rattle.json_text.proofs.places.digits_at.Goals as goal

pub returns : goal.returns
returns c =
    let a = c.args in
    digits_is a.s.now a.at (rw c.clamp.ensures.same at c.some.ensures)
