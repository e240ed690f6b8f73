-- `document::records::read` meets its contract.
-- Assumes nothing.
use mathlib.Core.Path.{refl}
use Rattle.nav.proofs.Navigation.{open_later, entered, vacant, barred}
use Rattle.document.proofs.Passes.{array_some, array_empty, array_not, array_absent}
use Rattle.document.proofs.Placing.{at_some, at_none}
use Rattle.document.proofs.records.read.Goals as goal

pub returns-in_default : goal.returns-in_default
returns-in_default g c = λ o t.
    let k = array_absent g.R.Records.fits in
    rw (at_none t c.in_default.is, k.0, k.1, c.requires)

pub read_from-requires : goal.read_from-requires
read_from-requires g c =
    let a = c.args in
    record { within = (open_later a.s.now c.in-Some.at c.in-More.ensures refl).1; none = c.requires }

pub returns-in-More : goal.returns-in-More
returns-in-More g c = λ o t.
    let a = c.args in
    let x = at_some t c.in-Some.is in
    let m = entered a.s.now c.in-Some.at c.in-More.ensures refl x.2 in
    let k = array_some g.R.Records.fits m.1 m.2 in
    rw (x.1, k.0, k.1) (c.read_from.ensures m.0 m.2)

pub returns-in-End : goal.returns-in-End
returns-in-End g c = λ o t.
    let a = c.args in
    let x = at_some t c.in-Some.is in
    let e = vacant a.s.now c.in-Some.at c.in-End.ensures refl x.2 in
    let k = array_empty g.R.Records.fits e in
    rw (x.1, k.0)

pub returns-in-Bad : goal.returns-in-Bad
returns-in-Bad g c = λ o t.
    let a = c.args in
    let x = at_some t c.in-Some.is in
    let f = barred a.s.now c.in-Some.at c.in-Bad.ensures refl x.2 in
    let k = array_not g.R.Records.fits x.0 f in
    rw (x.1, k.0)
