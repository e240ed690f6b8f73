-- `document::asset::is_minimum` meets its contract. Assumes nothing.
use Rattle.nav.proofs.Navigation.{string_stands}
use Rattle.document.specs.Names.{version20}
use Rattle.document.proofs.Placing.{at_some, at_none}
use Rattle.document.proofs.asset.is_minimum.Goals as goal

pub returns-in-Some : goal.returns-in-Some
returns-in-Some c = λ o t.
    let g = at_some t c.in-Some.is in
    rw g.1 (string_stands g.2 version20 c.string_is.ensures)

pub returns-in-None : goal.returns-in-None
returns-in-None c = λ o t. rw (at_none t c.in-None.is)
