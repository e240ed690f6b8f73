-- `json_text::bytes::is_digit` meets its contract.
-- Assumes nothing.
use Rattle.json_text.proofs.Questions.{at_most, both}
use Rattle.json_text.proofs.bytes.is_digit.Goals as goal

pub returns : goal.returns
returns c = rw c.is_ascii_digit.ensures.value (both (at_most _ _) (at_most _ _))
