-- `json_text::bytes::is_plain` meets its contract.
-- Assumes nothing.
use mathlib.Core.Path.{refl}
use Rattle.json_text.proofs.bytes.is_plain.Goals as goal

pub returns : goal.returns
returns c = refl
