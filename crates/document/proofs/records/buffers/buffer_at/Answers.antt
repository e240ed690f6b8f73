-- `document::records::buffers::buffer_at` meets its contract.
-- Assumes nothing.
use mathlib.Core.Path.{refl}
use native.Mathlib.Omega.{arith}
use Rattle.nav.specs.Members.{field_of}
use Rattle.nav.proofs.Navigation.{gather_past, gather_member}
use Rattle.document.specs.Names.{'byteLength'}
use Rattle.document.specs.Buffers.{is_buffer, buffer_of}
use Rattle.document.proofs.Placing.{has_member, past_ok, past_err}
use Rattle.document.proofs.Keeping.{unfit, kept_ok, kept_err, reads_ok, reads_err}
use Rattle.document.proofs.records.buffers.buffer_at.Goals as goal

pub returns-in_err-past : goal.returns-in_err-past
unfolding is_buffer buffer_of
returns-in_err-past c =
    let s = c.args.s.now in
    let at = c.args.at in
    let e = c.gather.ensures in
    let x = past_err (gather_past s at _ e) unfit c.ok_or.ensures.value c.in_err-past.was in
    reads_err c.from_residual.ensures.0 (λ j t.
    rw (x j t)
    refl)

pub returns-in_err-byte_length : goal.returns-in_err-byte_length
unfolding is_buffer buffer_of
returns-in_err-byte_length c =
    let s = c.args.s.now in
    let at = c.args.at in
    let e = c.gather.ensures in
    let x = past_ok (gather_past s at _ e) unfit c.ok_or.ensures.value c.in_ok-past.was in
    reads_err c.from_residual-in_err-byte_length.ensures.0 (λ j t.
    rw (
      x.2 j t,
      kept_err _ (c.required.ensures (field_of 'byteLength' j) (gather_member s at _ e t 0 (omega arith) (omega arith))) c.in_err-byte_length.was,
    )
    refl)

pub returns : goal.returns
unfolding is_buffer buffer_of
returns c =
    let s = c.args.s.now in
    let at = c.args.at in
    let e = c.gather.ensures in
    let x = past_ok (gather_past s at _ e) unfit c.ok_or.ensures.value c.in_ok-past.was in
    reads_ok x.0 x.1 (λ j t.
    let k0 = kept_ok (c.required.ensures (field_of 'byteLength' j) (gather_member s at _ e t 0 (omega arith) (omega arith))) c.in_ok-byte_length.was in
    (rw (x.2 j t, k0.0) refl, rw (c.is_some-has_uri.ensures, has_member (gather_member s at _ e t 1 (omega arith) (omega arith)), k0.1) refl))
