-- `document::members::true_or_false` meets its contract.
-- Assumes nothing.
use Rattle.nav.proofs.Navigation.{kind_stands}
use Rattle.document.proofs.Objects.{not_boolean}
use Rattle.document.proofs.Placing.{at_some, at_none}
use Rattle.document.specs.Members.{boolean_member}
use Rattle.document.proofs.members.true_or_false.Goals as goal

pub returns-in_default : goal.returns-in_default
unfolding boolean_member
returns-in_default c = λ o t. rw (at_none t c.in_default.is)

pub returns-in-True : goal.returns-in-True
unfolding boolean_member
returns-in-True c = λ o t.
    let g = at_some t c.in-Some.is in
    rw (g.1, ← kind_stands g.2 c.in-True.ensures)

pub returns-in-False : goal.returns-in-False
unfolding boolean_member
returns-in-False c = λ o t.
    let g = at_some t c.in-Some.is in
    rw (g.1, ← kind_stands g.2 c.in-False.ensures)

pub returns-in_default-kind_at : goal.returns-in_default-kind_at
unfolding boolean_member
returns-in_default-kind_at c = λ o t.
    let g = at_some t c.in-Some.is in
    rw (
      g.1,
      ← kind_stands g.2 c.kind_at.ensures,
      not_boolean c.kind_at.result
          c.in_default-kind_at.not-True
          c.in_default-kind_at.not-False,
    )
