-- `nav::members::keep` meets its contract.
-- Assumes nothing.
use Rattle.nav.specs.Gathers.Kept.{kept_new, kept_none, kept_old}
use Rattle.json_text.proofs.Laws.{told, untold}
use Rattle.nav.proofs.members.keep.Goals as goal

pub returns-in-None : goal.returns-in-None
returns-in-None c = rw c.in-None.is (kept_new (told c.quotes.ensures c.if-quotes.true))

pub returns-in_default : goal.returns-in_default
returns-in_default c = rw c.in-None.is (kept_none (untold c.quotes.ensures c.if-quotes.false))

pub returns-in_default-2 : goal.returns-in_default-2
returns-in_default-2 c = rw c.in_default.is kept_old
