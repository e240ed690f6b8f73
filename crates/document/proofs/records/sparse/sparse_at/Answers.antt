-- `document::records::sparse::sparse_at` meets its contract.
-- Assumes nothing.
use mathlib.Core.Path.{refl}
use native.Mathlib.Omega.{arith}
use Rattle.nav.specs.Members.{field_of}
use Rattle.nav.proofs.Navigation.{gather_past, gather_member}
use Rattle.document.specs.Sparse.{sparse_member}
use Rattle.document.specs.Names.{'count', 'indices', 'values'}
use Rattle.document.proofs.Placing.{at_some, at_none, past_ok, past_err}
use Rattle.document.proofs.Keeping.{unfit, kept_ok, kept_err, failed}
use Rattle.document.proofs.records.sparse.sparse_at.Goals as goal

pub returns-in_default : goal.returns-in_default
unfolding sparse_member
returns-in_default c = λ o t. rw (at_none t c.in_default.is) refl

pub returns-in_err-ok_or : goal.returns-in_err-ok_or
unfolding sparse_member
returns-in_err-ok_or c =
    let s = c.args.s.now in
    let at = c.in-Some.at in
    let e = c.gather.ensures in
    let x = past_err (gather_past s at _ e) unfit c.ok_or.ensures.value c.in_err-ok_or.was in
    λ o h.
    let g = at_some h c.in-Some.is in
    let j = g.0 in
    let t = g.2 in
    rw (
      g.1,
      x j t,
    )
    (failed c.from_residual.ensures.0)

pub returns-in_err-count : goal.returns-in_err-count
unfolding sparse_member
returns-in_err-count c =
    let s = c.args.s.now in
    let at = c.in-Some.at in
    let e = c.gather.ensures in
    let x = past_ok (gather_past s at _ e) unfit c.ok_or.ensures.value c.in_ok-ok_or.was in
    λ o h.
    let g = at_some h c.in-Some.is in
    let j = g.0 in
    let t = g.2 in
    rw (
      g.1,
      x.2 j t,
      kept_err _ (c.required.ensures (field_of 'count' j) (gather_member s at _ e t 0 (omega arith) (omega arith))) c.in_err-count.was,
    )
    (failed c.from_residual-in_err-count.ensures.0)

pub returns-in_err-indices : goal.returns-in_err-indices
unfolding sparse_member
returns-in_err-indices c =
    let s = c.args.s.now in
    let at = c.in-Some.at in
    let e = c.gather.ensures in
    let x = past_ok (gather_past s at _ e) unfit c.ok_or.ensures.value c.in_ok-ok_or.was in
    λ o h.
    let g = at_some h c.in-Some.is in
    let j = g.0 in
    let t = g.2 in
    rw (
      g.1,
      x.2 j t,
      (kept_ok (c.required.ensures (field_of 'count' j) (gather_member s at _ e t 0 (omega arith) (omega arith))) c.in_ok-count.was).0,
      kept_err _ (c.indices_at.ensures (field_of 'indices' j) (gather_member s at _ e t 1 (omega arith) (omega arith))) c.in_err-indices.was,
    )
    (failed c.from_residual-in_err-indices.ensures.0)

pub returns-in_err-values : goal.returns-in_err-values
unfolding sparse_member
returns-in_err-values c =
    let s = c.args.s.now in
    let at = c.in-Some.at in
    let e = c.gather.ensures in
    let x = past_ok (gather_past s at _ e) unfit c.ok_or.ensures.value c.in_ok-ok_or.was in
    λ o h.
    let g = at_some h c.in-Some.is in
    let j = g.0 in
    let t = g.2 in
    rw (
      g.1,
      x.2 j t,
      (kept_ok (c.required.ensures (field_of 'count' j) (gather_member s at _ e t 0 (omega arith) (omega arith))) c.in_ok-count.was).0,
      (kept_ok (c.indices_at.ensures (field_of 'indices' j) (gather_member s at _ e t 1 (omega arith) (omega arith))) c.in_ok-indices.was).0,
      kept_err _ (c.values_at.ensures (field_of 'values' j) (gather_member s at _ e t 2 (omega arith) (omega arith))) c.in_err-values.was,
    )
    (failed c.from_residual-in_err-values.ensures.0)

pub returns : goal.returns
unfolding sparse_member
returns c =
    let s = c.args.s.now in
    let at = c.in-Some.at in
    let e = c.gather.ensures in
    let x = past_ok (gather_past s at _ e) unfit c.ok_or.ensures.value c.in_ok-ok_or.was in
    λ o h.
    let g = at_some h c.in-Some.is in
    let j = g.0 in
    let t = g.2 in
    let k0 = kept_ok (c.required.ensures (field_of 'count' j) (gather_member s at _ e t 0 (omega arith) (omega arith))) c.in_ok-count.was in
    let k1 = kept_ok (c.indices_at.ensures (field_of 'indices' j) (gather_member s at _ e t 1 (omega arith) (omega arith))) c.in_ok-indices.was in
    let k2 = kept_ok (c.values_at.ensures (field_of 'values' j) (gather_member s at _ e t 2 (omega arith) (omega arith))) c.in_ok-values.was in
    rw (g.1, x.2 j t, k0.0, k1.0, k2.0, k0.1, ← k1.1, ← k2.1) refl
