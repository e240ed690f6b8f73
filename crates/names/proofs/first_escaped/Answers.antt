-- `names::first_escaped` meets its contract.
-- Assumes nothing.
use mathlib.Core.Path.{sym, ◌∙◌}
use Rattle.names.proofs.Calm.{plain_without}
use Rattle.names.proofs.first_escaped.Goals as goal

pub returns-else-has_backslash : goal.returns-else-has_backslash
returns-else-has_backslash c = plain_without _ (sym c.has_backslash.ensures ∙ c.if-has_backslash.false)
