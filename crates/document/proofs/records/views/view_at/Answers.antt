-- `document::records::views::view_at` meets its contract. Where required_member_not_required plants, `grind arith` takes the value
-- from the facts, so that a wrong one is refused by what it says.
-- Assumes nothing.
use mathlib.Core.Path.{◌≡◌, refl}
use native.Mathlib.Omega.{arith}
use Rattle.std.specs.Prelude.{Ok}
use Rattle.nav.specs.Members.{field_of}
use Rattle.nav.proofs.Navigation.{gather_past, gather_member}
use Rattle.document.specs.Names.{'buffer', 'byteLength', 'byteOffset', 'byteStride', 'target'}
use Rattle.document.specs.Views.{is_view, view_of}
use Rattle.document.proofs.Placing.{past_ok, past_err}
use Rattle.document.proofs.Keeping.{unfit, kept_ok, kept_err, reads_ok, reads_err, number_value}
use Rattle.document.proofs.records.views.view_at.Goals as goal
use Rattle.document.proofs.records.views.view_at.Goals.{In_ok-buffer}

-- what `required` answers where buffer is read
buffer-is : (c : In_ok-buffer) → c.required.result ≡ Ok c.in_ok-buffer.buffer
buffer-is c = grind arith

pub returns-in_err-past : goal.returns-in_err-past
unfolding is_view view_of
returns-in_err-past c =
    let s = c.args.s.now in
    let at = c.args.at in
    let e = c.gather.ensures in
    let x = past_err (gather_past s at _ e) unfit c.ok_or.ensures.value c.in_err-past.was in
    reads_err c.from_residual.ensures.0 (λ j t.
    rw (x j t)
    refl)

pub returns-in_err-buffer : goal.returns-in_err-buffer
unfolding is_view view_of
returns-in_err-buffer c =
    let s = c.args.s.now in
    let at = c.args.at in
    let e = c.gather.ensures in
    let x = past_ok (gather_past s at _ e) unfit c.ok_or.ensures.value c.in_ok-past.was in
    reads_err c.from_residual-in_err-buffer.ensures.0 (λ j t.
    rw (
      x.2 j t,
      kept_err _ (c.required.ensures (field_of 'buffer' j) (gather_member s at _ e t 0 (omega arith) (omega arith))) (grind arith),
    )
    refl)

pub returns-in_err-byte_length : goal.returns-in_err-byte_length
unfolding is_view view_of
returns-in_err-byte_length c =
    let s = c.args.s.now in
    let at = c.args.at in
    let e = c.gather.ensures in
    let x = past_ok (gather_past s at _ e) unfit c.ok_or.ensures.value c.in_ok-past.was in
    reads_err c.from_residual-in_err-byte_length.ensures.0 (λ j t.
    rw (
      x.2 j t,
      (kept_ok (c.required.ensures (field_of 'buffer' j) (gather_member s at _ e t 0 (omega arith) (omega arith))) (buffer-is (goal.at.returns-in_err-byte_length c).In_ok-buffer)).0,
      kept_err _ (c.required-2.ensures (field_of 'byteLength' j) (gather_member s at _ e t 1 (omega arith) (omega arith))) c.in_err-byte_length.was,
    )
    refl)

pub returns-in_err-byte_offset : goal.returns-in_err-byte_offset
unfolding is_view view_of
returns-in_err-byte_offset c =
    let s = c.args.s.now in
    let at = c.args.at in
    let e = c.gather.ensures in
    let x = past_ok (gather_past s at _ e) unfit c.ok_or.ensures.value c.in_ok-past.was in
    reads_err c.from_residual-in_err-byte_offset.ensures.0 (λ j t.
    rw (
      x.2 j t,
      (kept_ok (c.required.ensures (field_of 'buffer' j) (gather_member s at _ e t 0 (omega arith) (omega arith))) (buffer-is (goal.at.returns-in_err-byte_offset c).In_ok-buffer)).0,
      (kept_ok (c.required-2.ensures (field_of 'byteLength' j) (gather_member s at _ e t 1 (omega arith) (omega arith))) c.in_ok-byte_length.was).0,
      kept_err _ (c.optional.ensures (field_of 'byteOffset' j) (gather_member s at _ e t 2 (omega arith) (omega arith))) c.in_err-byte_offset.was,
    )
    refl)

pub returns-in_err-byte_stride : goal.returns-in_err-byte_stride
unfolding is_view view_of
returns-in_err-byte_stride c =
    let s = c.args.s.now in
    let at = c.args.at in
    let e = c.gather.ensures in
    let x = past_ok (gather_past s at _ e) unfit c.ok_or.ensures.value c.in_ok-past.was in
    reads_err c.from_residual-in_err-byte_stride.ensures.0 (λ j t.
    rw (
      x.2 j t,
      (kept_ok (c.required.ensures (field_of 'buffer' j) (gather_member s at _ e t 0 (omega arith) (omega arith))) (buffer-is (goal.at.returns-in_err-byte_stride c).In_ok-buffer)).0,
      (kept_ok (c.required-2.ensures (field_of 'byteLength' j) (gather_member s at _ e t 1 (omega arith) (omega arith))) c.in_ok-byte_length.was).0,
      (kept_ok (c.optional.ensures (field_of 'byteOffset' j) (gather_member s at _ e t 2 (omega arith) (omega arith))) c.in_ok-byte_offset.was).0,
      kept_err _ (c.optional-2.ensures (field_of 'byteStride' j) (gather_member s at _ e t 3 (omega arith) (omega arith))) c.in_err-byte_stride.was,
    )
    refl)

pub returns-in_err-target : goal.returns-in_err-target
unfolding is_view view_of
returns-in_err-target c =
    let s = c.args.s.now in
    let at = c.args.at in
    let e = c.gather.ensures in
    let x = past_ok (gather_past s at _ e) unfit c.ok_or.ensures.value c.in_ok-past.was in
    reads_err c.from_residual-in_err-target.ensures.0 (λ j t.
    rw (
      x.2 j t,
      (kept_ok (c.required.ensures (field_of 'buffer' j) (gather_member s at _ e t 0 (omega arith) (omega arith))) (buffer-is (goal.at.returns-in_err-target c).In_ok-buffer)).0,
      (kept_ok (c.required-2.ensures (field_of 'byteLength' j) (gather_member s at _ e t 1 (omega arith) (omega arith))) c.in_ok-byte_length.was).0,
      (kept_ok (c.optional.ensures (field_of 'byteOffset' j) (gather_member s at _ e t 2 (omega arith) (omega arith))) c.in_ok-byte_offset.was).0,
      (kept_ok (c.optional-2.ensures (field_of 'byteStride' j) (gather_member s at _ e t 3 (omega arith) (omega arith))) c.in_ok-byte_stride.was).0,
      kept_err _ (c.optional-3.ensures (field_of 'target' j) (gather_member s at _ e t 4 (omega arith) (omega arith))) c.in_err-target.was,
    )
    refl)

pub returns : goal.returns
unfolding is_view view_of
returns c =
    let s = c.args.s.now in
    let at = c.args.at in
    let e = c.gather.ensures in
    let x = past_ok (gather_past s at _ e) unfit c.ok_or.ensures.value c.in_ok-past.was in
    reads_ok x.0 x.1 (λ j t.
    let k0 = kept_ok (c.required.ensures (field_of 'buffer' j) (gather_member s at _ e t 0 (omega arith) (omega arith))) (buffer-is (goal.at.returns c).In_ok-buffer) in
    let k1 = kept_ok (c.required-2.ensures (field_of 'byteLength' j) (gather_member s at _ e t 1 (omega arith) (omega arith))) c.in_ok-byte_length.was in
    let k2 = kept_ok (c.optional.ensures (field_of 'byteOffset' j) (gather_member s at _ e t 2 (omega arith) (omega arith))) c.in_ok-byte_offset.was in
    let n2 = number_value (field_of 'byteOffset' j) k2.1 in
    let k3 = kept_ok (c.optional-2.ensures (field_of 'byteStride' j) (gather_member s at _ e t 3 (omega arith) (omega arith))) c.in_ok-byte_stride.was in
    let n3 = number_value (field_of 'byteStride' j) k3.1 in
    let k4 = kept_ok (c.optional-3.ensures (field_of 'target' j) (gather_member s at _ e t 4 (omega arith) (omega arith))) c.in_ok-target.was in
    let n4 = number_value (field_of 'target' j) k4.1 in (
      rw (x.2 j t, k0.0, k1.0, k2.0, k3.0, k4.0) refl,
      rw (
        k0.1,
        k1.1,
        ← n2.0,
        ← n3.0,
        ← n3.1,
        ← n4.0,
        ← n4.1,
        c.unwrap_or.ensures,
        c.unwrap_or-2.ensures,
        c.is_some.ensures,
        c.unwrap_or-3.ensures,
        c.is_some-2.ensures,
      )
          refl,
    ))
