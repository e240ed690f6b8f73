-- `json_text::places::name_at` meets its contract.
-- Assumes nothing.
use Rattle.json_text.proofs.Ends.{name_is}
use Rattle.json_text.proofs.places.name_at.Goals as goal

pub returns : goal.returns
returns c =
    let a = c.args in
    name_is a.s.now a.at (rw c.clamp.ensures.same at c.name.ensures)
