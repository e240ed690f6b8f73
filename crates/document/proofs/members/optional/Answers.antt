-- `document::members::optional` meets its contract.
-- Assumes nothing.
use mathlib.Core.Path.{◌∙◌}
use Rattle.nav.proofs.Navigation.{integer_stands}
use Rattle.document.specs.Members.{integer_member}
use Rattle.document.proofs.Keeping.{failed, integer_ok, integer_err}
use Rattle.document.proofs.Placing.{at_some, at_none}
use Rattle.document.proofs.members.optional.Goals as goal

pub returns-in_default : goal.returns-in_default
unfolding integer_member
returns-in_default c = λ o t. rw (at_none t c.in_default.is)

pub returns-in_err-value : goal.returns-in_err-value
unfolding integer_member
returns-in_err-value c = λ o t.
    let g = at_some t c.in-Some.is in
    rw (g.1, ← integer_stands g.2 c.integer_at.ensures)
    (failed c.from_residual.ensures.0 ∙ integer_err c.integer_at.result c.ok_or.ensures.value c.in_err-value.was)

pub returns : goal.returns
unfolding integer_member
returns c = λ o t.
    let g = at_some t c.in-Some.is in
    rw (g.1, ← integer_stands g.2 c.integer_at.ensures)
    (integer_ok c.integer_at.result c.ok_or.ensures.value c.in_ok-value.was)
