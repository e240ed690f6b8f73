-- `document::asset::is_asset` meets its contract. Assumes nothing.
use mathlib.Core.Path.{refl}
use native.Mathlib.Omega.{arith}
use Rattle.nav.specs.Members.{field_of}
use Rattle.nav.proofs.Navigation.{gather_past, gather_member}
use Rattle.document.specs.Names.{'version', 'minVersion'}
use Rattle.document.proofs.Placing.{at_some, at_none, is_past}
use Rattle.document.proofs.asset.is_asset.Goals as goal

pub returns-in_default : goal.returns-in_default
returns-in_default c = λ o t. rw (at_none t c.in_default.is)

pub returns : goal.returns
returns c = λ o h.
    let s = c.args.s.now in
    let at = c.in-Some.at in
    let g = at_some h c.in-Some.is in
    let j = g.0 in
    let t = g.2 in
    let e = c.gather.ensures in
    rw (
      g.1,
      ← is_past (gather_past s at _ e) t,
      ← c.is_some.ensures,
      ← c.is_version-version.ensures (field_of 'version' j) (gather_member s at _ e t 0 (omega arith) (omega arith)),
      ← c.is_minimum-minimum.ensures (field_of 'minVersion' j) (gather_member s at _ e t 1 (omega arith) (omega arith)),
    )
    refl
