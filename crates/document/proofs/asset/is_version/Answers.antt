-- `document::asset::is_version` meets its contract. Assumes nothing.
use Rattle.nav.proofs.Navigation.{version_stands}
use Rattle.document.proofs.Placing.{at_some, at_none}
use Rattle.document.proofs.asset.is_version.Goals as goal

pub returns-in-Some : goal.returns-in-Some
returns-in-Some c = λ o t.
    let g = at_some t c.in-Some.is in
    rw g.1 (version_stands g.2 c.is_version.ensures)

pub returns-in-None : goal.returns-in-None
returns-in-None c = λ o t. rw (at_none t c.in-None.is)
