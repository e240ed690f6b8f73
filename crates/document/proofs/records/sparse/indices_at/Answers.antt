-- `document::records::sparse::indices_at` meets its contract.
-- Assumes nothing.
use mathlib.Core.Path.{refl}
use native.Mathlib.Omega.{arith}
use Rattle.nav.specs.Members.{field_of}
use Rattle.nav.proofs.Navigation.{gather_past, gather_member}
use Rattle.document.specs.Sparse.{indices_member}
use Rattle.document.specs.Names.{'bufferView', 'componentType', 'byteOffset'}
use Rattle.document.proofs.Placing.{at_some, at_none, past_ok, past_err}
use Rattle.document.proofs.Keeping.{unfit, kept_ok, kept_err, failed, number_value}
use Rattle.document.proofs.records.sparse.indices_at.Goals as goal

pub returns-in_default : goal.returns-in_default
unfolding indices_member
returns-in_default c = λ o t. rw (at_none t c.in_default.is) refl

pub returns-in_err-ok_or : goal.returns-in_err-ok_or
unfolding indices_member
returns-in_err-ok_or c =
    let s = c.args.s.now in
    let at = c.in-Some.at in
    let e = c.gather.ensures in
    let x = past_err (gather_past s at _ e) unfit c.ok_or.ensures.value c.in_err-ok_or.was in
    λ o h.
    let g = at_some h c.in-Some.is in
    let j = g.0 in
    let t = g.2 in
    rw (
      g.1,
      x j t,
    )
    (failed c.from_residual.ensures.0)

pub returns-in_err-buffer_view : goal.returns-in_err-buffer_view
unfolding indices_member
returns-in_err-buffer_view c =
    let s = c.args.s.now in
    let at = c.in-Some.at in
    let e = c.gather.ensures in
    let x = past_ok (gather_past s at _ e) unfit c.ok_or.ensures.value c.in_ok-ok_or.was in
    λ o h.
    let g = at_some h c.in-Some.is in
    let j = g.0 in
    let t = g.2 in
    rw (
      g.1,
      x.2 j t,
      kept_err _ (c.required.ensures (field_of 'bufferView' j) (gather_member s at _ e t 0 (omega arith) (omega arith))) c.in_err-buffer_view.was,
    )
    (failed c.from_residual-in_err-buffer_view.ensures.0)

pub returns-in_err-component_type : goal.returns-in_err-component_type
unfolding indices_member
returns-in_err-component_type c =
    let s = c.args.s.now in
    let at = c.in-Some.at in
    let e = c.gather.ensures in
    let x = past_ok (gather_past s at _ e) unfit c.ok_or.ensures.value c.in_ok-ok_or.was in
    λ o h.
    let g = at_some h c.in-Some.is in
    let j = g.0 in
    let t = g.2 in
    rw (
      g.1,
      x.2 j t,
      (kept_ok (c.required.ensures (field_of 'bufferView' j) (gather_member s at _ e t 0 (omega arith) (omega arith))) c.in_ok-buffer_view.was).0,
      kept_err _ (c.required-2.ensures (field_of 'componentType' j) (gather_member s at _ e t 1 (omega arith) (omega arith))) c.in_err-component_type.was,
    )
    (failed c.from_residual-in_err-component_type.ensures.0)

pub returns-in_err-byte_offset : goal.returns-in_err-byte_offset
unfolding indices_member
returns-in_err-byte_offset c =
    let s = c.args.s.now in
    let at = c.in-Some.at in
    let e = c.gather.ensures in
    let x = past_ok (gather_past s at _ e) unfit c.ok_or.ensures.value c.in_ok-ok_or.was in
    λ o h.
    let g = at_some h c.in-Some.is in
    let j = g.0 in
    let t = g.2 in
    rw (
      g.1,
      x.2 j t,
      (kept_ok (c.required.ensures (field_of 'bufferView' j) (gather_member s at _ e t 0 (omega arith) (omega arith))) c.in_ok-buffer_view.was).0,
      (kept_ok (c.required-2.ensures (field_of 'componentType' j) (gather_member s at _ e t 1 (omega arith) (omega arith))) c.in_ok-component_type.was).0,
      kept_err _ (c.optional.ensures (field_of 'byteOffset' j) (gather_member s at _ e t 2 (omega arith) (omega arith))) c.in_err-byte_offset.was,
    )
    (failed c.from_residual-in_err-byte_offset.ensures.0)

pub returns : goal.returns
unfolding indices_member
returns c =
    let s = c.args.s.now in
    let at = c.in-Some.at in
    let e = c.gather.ensures in
    let x = past_ok (gather_past s at _ e) unfit c.ok_or.ensures.value c.in_ok-ok_or.was in
    λ o h.
    let g = at_some h c.in-Some.is in
    let j = g.0 in
    let t = g.2 in
    let k0 = kept_ok (c.required.ensures (field_of 'bufferView' j) (gather_member s at _ e t 0 (omega arith) (omega arith))) c.in_ok-buffer_view.was in
    let k1 = kept_ok (c.required-2.ensures (field_of 'componentType' j) (gather_member s at _ e t 1 (omega arith) (omega arith))) c.in_ok-component_type.was in
    let k2 = kept_ok (c.optional.ensures (field_of 'byteOffset' j) (gather_member s at _ e t 2 (omega arith) (omega arith))) c.in_ok-byte_offset.was in
    let n2 = number_value (field_of 'byteOffset' j) k2.1 in
    rw (g.1, x.2 j t, k0.0, k1.0, k2.0, k0.1, k1.1, ← n2.0, c.unwrap_or.ensures) refl
