-- `json_text::places::value_at` meets its contract.
-- Assumes nothing.
use Rattle.json_text.proofs.Ends.{value_is}
use Rattle.json_text.proofs.places.value_at.Goals as goal

pub returns : goal.returns
returns c =
    let a = c.args in
    value_is a.s.now a.at (rw c.clamp.ensures.same at c.value.ensures)
