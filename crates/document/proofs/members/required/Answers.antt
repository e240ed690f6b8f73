-- `document::members::required` meets its contract.
-- Assumes nothing.
use mathlib.Core.Path.{◌∙◌}
use Rattle.document.proofs.Keeping.{required_err, required_ok, failed}
use Rattle.document.proofs.members.required.Goals as goal

pub returns-in_err-optional : goal.returns-in_err-optional
returns-in_err-optional c = λ o t.
    rw (required_err o (c.optional.ensures o t) c.in_err-optional.was) (failed c.from_residual.ensures.0)

pub returns : goal.returns
returns c = λ o t. c.ok_or.ensures.value ∙ required_ok o (c.optional.ensures o t) c.in_ok-optional.was
