-- `json_text::places::literal_at` meets its contract.
-- Assumes nothing.
use Rattle.json_text.proofs.Ends.{literal_is}
use Rattle.json_text.proofs.places.literal_at.Goals as goal

pub returns : goal.returns
returns c =
    let a = c.args in
    literal_is a.s.now a.at (rw c.clamp.ensures.same at c.literal.ensures)
