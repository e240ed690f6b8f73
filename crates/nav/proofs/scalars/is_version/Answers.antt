-- `nav::scalars::is_version` meets its contract.
-- Assumes nothing.
use Rattle.json_text.proofs.Laws.{said_past}
use Rattle.json_text.proofs.Ends.{literal_said, digits_said}
use Rattle.nav.proofs.Scanned.{failed}
use Rattle.nav.proofs.Spellings.{Start, version_is, version_mark, version_start_no, version_digits_no}
use Rattle.nav.proofs.scalars.is_version.Goals as goal

pub returns-in_default : goal.returns-in_default
returns-in_default c =
    let a = c.args in
    version_is (version_start_no (failed (literal_said a.s.now a.at Start c.literal_at.ensures) c.in_default.is).2)

pub returns-in-Err : goal.returns-in-Err
returns-in-Err c =
    let a = c.args in
    let v = said_past (literal_said a.s.now a.at Start c.literal_at.ensures) c.in-Ok.is in
    version_is (version_digits_no v.1
    (failed (digits_said a.s.now c.in-Ok.p c.digits_at.ensures) c.in-Err.is).2)

pub returns-in-Ok-digits_at : goal.returns-in-Ok-digits_at
returns-in-Ok-digits_at c =
    let a = c.args in
    let v = said_past (literal_said a.s.now a.at Start c.literal_at.ensures) c.in-Ok.is in
    let k = said_past (digits_said a.s.now c.in-Ok.p c.digits_at.ensures) c.in-Ok-digits_at.is in
    rw c.eq.ensures (version_is (version_mark v.1 k.1.1 c.front.ensures))
