-- `nav::members::member_at` meets its contract.
-- Assumes nothing.
use Rattle.nav.specs.MemberSteps.NamedTo.{named_more, named_not, named_end, named_bad}
use Rattle.json_text.proofs.Laws.{said_past}
use Rattle.json_text.proofs.Excluded.{no_name}
use Rattle.json_text.proofs.Ends.{name_said}
use Rattle.nav.proofs.Scanned.{failed}
use Rattle.nav.proofs.members.member_at.Goals as goal

pub returns-in-Ok : goal.returns-in-Ok
returns-in-Ok c =
    let k = said_past (name_said c.args.s.now c.in-More.q c.name_at.ensures) c.in-Ok.is in
    rw c.in-More.is (named_more {l = k.1.0} k.0 k.1.1 k.1.2)

pub returns-in-Err : goal.returns-in-Err
returns-in-Err c =
    let k = failed (name_said c.args.s.now c.in-More.q c.name_at.ensures) c.in-Err.is in
    rw c.in-More.is (named_not (λ l v. no_name k.2))

pub returns-in-End : goal.returns-in-End
returns-in-End c = rw c.in-End.is named_end

pub returns-in-Bad : goal.returns-in-Bad
returns-in-Bad c = rw c.in-Bad.is named_bad
