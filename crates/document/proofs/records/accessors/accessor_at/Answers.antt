-- `document::records::accessors::accessor_at` meets its contract. Where null_taken_for_absent plants, `grind arith` takes the value
-- from the facts, so that a wrong one is refused by what it says.
-- Assumes nothing.
use mathlib.Core.Path.{◌≡◌, refl}
use native.Mathlib.Omega.{arith}
use Rattle.std.specs.Prelude.{Ok}
use Rattle.nav.specs.Members.{field_of}
use Rattle.nav.proofs.Navigation.{gather_past, gather_member}
use Rattle.document.specs.Names.{'componentType', 'count', 'type', 'bufferView', 'byteOffset', 'normalized', 'sparse'}
use Rattle.document.specs.Accessors.{is_accessor, accessor_of}
use Rattle.document.proofs.Placing.{past_ok, past_err}
use Rattle.document.proofs.Keeping.{unfit, kept_ok, kept_err, reads_ok, reads_err, number_value, sparse_value, sparse_default}
use Rattle.document.proofs.records.accessors.accessor_at.Goals as goal
use Rattle.document.proofs.records.accessors.accessor_at.Goals.{In_ok-normalized}

-- what `true_or_false` answers where normalized is read
normalized-is : (c : In_ok-normalized) → c.true_or_false.result ≡ Ok c.in_ok-normalized.normalized
normalized-is c = grind arith

pub returns-in_err-past : goal.returns-in_err-past
unfolding is_accessor accessor_of
returns-in_err-past c =
    let s = c.args.s.now in
    let at = c.args.at in
    let e = c.gather.ensures in
    let x = past_err (gather_past s at _ e) unfit c.ok_or.ensures.value c.in_err-past.was in
    reads_err c.from_residual.ensures.0 (λ j t.
    rw (x j t)
    refl)

pub returns-in_err-component_type : goal.returns-in_err-component_type
unfolding is_accessor accessor_of
returns-in_err-component_type c =
    let s = c.args.s.now in
    let at = c.args.at in
    let e = c.gather.ensures in
    let x = past_ok (gather_past s at _ e) unfit c.ok_or.ensures.value c.in_ok-past.was in
    reads_err c.from_residual-in_err-component_type.ensures.0 (λ j t.
    rw (
      x.2 j t,
      kept_err _ (c.required.ensures (field_of 'componentType' j) (gather_member s at _ e t 0 (omega arith) (omega arith))) c.in_err-component_type.was,
    )
    refl)

pub returns-in_err-count : goal.returns-in_err-count
unfolding is_accessor accessor_of
returns-in_err-count c =
    let s = c.args.s.now in
    let at = c.args.at in
    let e = c.gather.ensures in
    let x = past_ok (gather_past s at _ e) unfit c.ok_or.ensures.value c.in_ok-past.was in
    reads_err c.from_residual-in_err-count.ensures.0 (λ j t.
    rw (
      x.2 j t,
      (kept_ok (c.required.ensures (field_of 'componentType' j) (gather_member s at _ e t 0 (omega arith) (omega arith))) c.in_ok-component_type.was).0,
      kept_err _ (c.required-2.ensures (field_of 'count' j) (gather_member s at _ e t 1 (omega arith) (omega arith))) c.in_err-count.was,
    )
    refl)

pub returns-in_err-element_type : goal.returns-in_err-element_type
unfolding is_accessor accessor_of
returns-in_err-element_type c =
    let s = c.args.s.now in
    let at = c.args.at in
    let e = c.gather.ensures in
    let x = past_ok (gather_past s at _ e) unfit c.ok_or.ensures.value c.in_ok-past.was in
    reads_err c.from_residual-in_err-element_type.ensures.0 (λ j t.
    rw (
      x.2 j t,
      (kept_ok (c.required.ensures (field_of 'componentType' j) (gather_member s at _ e t 0 (omega arith) (omega arith))) c.in_ok-component_type.was).0,
      (kept_ok (c.required-2.ensures (field_of 'count' j) (gather_member s at _ e t 1 (omega arith) (omega arith))) c.in_ok-count.was).0,
      kept_err _ (c.element_type.ensures (field_of 'type' j) (gather_member s at _ e t 2 (omega arith) (omega arith))) c.in_err-element_type.was,
    )
    refl)

pub returns-in_err-view : goal.returns-in_err-view
unfolding is_accessor accessor_of
returns-in_err-view c =
    let s = c.args.s.now in
    let at = c.args.at in
    let e = c.gather.ensures in
    let x = past_ok (gather_past s at _ e) unfit c.ok_or.ensures.value c.in_ok-past.was in
    reads_err c.from_residual-in_err-view.ensures.0 (λ j t.
    rw (
      x.2 j t,
      (kept_ok (c.required.ensures (field_of 'componentType' j) (gather_member s at _ e t 0 (omega arith) (omega arith))) c.in_ok-component_type.was).0,
      (kept_ok (c.required-2.ensures (field_of 'count' j) (gather_member s at _ e t 1 (omega arith) (omega arith))) c.in_ok-count.was).0,
      (kept_ok (c.element_type.ensures (field_of 'type' j) (gather_member s at _ e t 2 (omega arith) (omega arith))) c.in_ok-element_type.was).0,
      kept_err _ (c.optional.ensures (field_of 'bufferView' j) (gather_member s at _ e t 3 (omega arith) (omega arith))) c.in_err-view.was,
    )
    refl)

pub returns-in_err-offset : goal.returns-in_err-offset
unfolding is_accessor accessor_of
returns-in_err-offset c =
    let s = c.args.s.now in
    let at = c.args.at in
    let e = c.gather.ensures in
    let x = past_ok (gather_past s at _ e) unfit c.ok_or.ensures.value c.in_ok-past.was in
    reads_err c.from_residual-in_err-offset.ensures.0 (λ j t.
    rw (
      x.2 j t,
      (kept_ok (c.required.ensures (field_of 'componentType' j) (gather_member s at _ e t 0 (omega arith) (omega arith))) c.in_ok-component_type.was).0,
      (kept_ok (c.required-2.ensures (field_of 'count' j) (gather_member s at _ e t 1 (omega arith) (omega arith))) c.in_ok-count.was).0,
      (kept_ok (c.element_type.ensures (field_of 'type' j) (gather_member s at _ e t 2 (omega arith) (omega arith))) c.in_ok-element_type.was).0,
      (kept_ok (c.optional.ensures (field_of 'bufferView' j) (gather_member s at _ e t 3 (omega arith) (omega arith))) c.in_ok-view.was).0,
      kept_err _ (c.optional-2.ensures (field_of 'byteOffset' j) (gather_member s at _ e t 4 (omega arith) (omega arith))) c.in_err-offset.was,
    )
    refl)

pub returns-in_err-normalized : goal.returns-in_err-normalized
unfolding is_accessor accessor_of
returns-in_err-normalized c =
    let s = c.args.s.now in
    let at = c.args.at in
    let e = c.gather.ensures in
    let x = past_ok (gather_past s at _ e) unfit c.ok_or.ensures.value c.in_ok-past.was in
    reads_err c.from_residual-in_err-normalized.ensures.0 (λ j t.
    rw (
      x.2 j t,
      (kept_ok (c.required.ensures (field_of 'componentType' j) (gather_member s at _ e t 0 (omega arith) (omega arith))) c.in_ok-component_type.was).0,
      (kept_ok (c.required-2.ensures (field_of 'count' j) (gather_member s at _ e t 1 (omega arith) (omega arith))) c.in_ok-count.was).0,
      (kept_ok (c.element_type.ensures (field_of 'type' j) (gather_member s at _ e t 2 (omega arith) (omega arith))) c.in_ok-element_type.was).0,
      (kept_ok (c.optional.ensures (field_of 'bufferView' j) (gather_member s at _ e t 3 (omega arith) (omega arith))) c.in_ok-view.was).0,
      (kept_ok (c.optional-2.ensures (field_of 'byteOffset' j) (gather_member s at _ e t 4 (omega arith) (omega arith))) c.in_ok-offset.was).0,
      kept_err _ (c.true_or_false.ensures (field_of 'normalized' j) (gather_member s at _ e t 5 (omega arith) (omega arith))) (grind arith),
    )
    refl)

pub returns-in_err-sparse : goal.returns-in_err-sparse
unfolding is_accessor accessor_of
returns-in_err-sparse c =
    let s = c.args.s.now in
    let at = c.args.at in
    let e = c.gather.ensures in
    let x = past_ok (gather_past s at _ e) unfit c.ok_or.ensures.value c.in_ok-past.was in
    reads_err c.from_residual-in_err-sparse.ensures.0 (λ j t.
    rw (
      x.2 j t,
      (kept_ok (c.required.ensures (field_of 'componentType' j) (gather_member s at _ e t 0 (omega arith) (omega arith))) c.in_ok-component_type.was).0,
      (kept_ok (c.required-2.ensures (field_of 'count' j) (gather_member s at _ e t 1 (omega arith) (omega arith))) c.in_ok-count.was).0,
      (kept_ok (c.element_type.ensures (field_of 'type' j) (gather_member s at _ e t 2 (omega arith) (omega arith))) c.in_ok-element_type.was).0,
      (kept_ok (c.optional.ensures (field_of 'bufferView' j) (gather_member s at _ e t 3 (omega arith) (omega arith))) c.in_ok-view.was).0,
      (kept_ok (c.optional-2.ensures (field_of 'byteOffset' j) (gather_member s at _ e t 4 (omega arith) (omega arith))) c.in_ok-offset.was).0,
      (kept_ok (c.true_or_false.ensures (field_of 'normalized' j) (gather_member s at _ e t 5 (omega arith) (omega arith))) (normalized-is (goal.at.returns-in_err-sparse c).In_ok-normalized)).0,
      kept_err _ (c.sparse_at.ensures (field_of 'sparse' j) (gather_member s at _ e t 6 (omega arith) (omega arith))) c.in_err-sparse.was,
    )
    refl)

pub returns : goal.returns
unfolding is_accessor accessor_of
returns c =
    let s = c.args.s.now in
    let at = c.args.at in
    let e = c.gather.ensures in
    let x = past_ok (gather_past s at _ e) unfit c.ok_or.ensures.value c.in_ok-past.was in
    reads_ok x.0 x.1 (λ j t.
    let k0 = kept_ok (c.required.ensures (field_of 'componentType' j) (gather_member s at _ e t 0 (omega arith) (omega arith))) c.in_ok-component_type.was in
    let k1 = kept_ok (c.required-2.ensures (field_of 'count' j) (gather_member s at _ e t 1 (omega arith) (omega arith))) c.in_ok-count.was in
    let k2 = kept_ok (c.element_type.ensures (field_of 'type' j) (gather_member s at _ e t 2 (omega arith) (omega arith))) c.in_ok-element_type.was in
    let k3 = kept_ok (c.optional.ensures (field_of 'bufferView' j) (gather_member s at _ e t 3 (omega arith) (omega arith))) c.in_ok-view.was in
    let n3 = number_value (field_of 'bufferView' j) k3.1 in
    let k4 = kept_ok (c.optional-2.ensures (field_of 'byteOffset' j) (gather_member s at _ e t 4 (omega arith) (omega arith))) c.in_ok-offset.was in
    let n4 = number_value (field_of 'byteOffset' j) k4.1 in
    let k5 = kept_ok (c.true_or_false.ensures (field_of 'normalized' j) (gather_member s at _ e t 5 (omega arith) (omega arith))) (normalized-is (goal.at.returns c).In_ok-normalized) in
    let k6 = kept_ok (c.sparse_at.ensures (field_of 'sparse' j) (gather_member s at _ e t 6 (omega arith) (omega arith))) c.in_ok-sparse.was in
    let n6 = sparse_value (field_of 'sparse' j) k6.1 in (
      rw (x.2 j t, k0.0, k1.0, k2.0, k3.0, k4.0, k5.0, k6.0) refl,
      rw (
        k0.1,
        k1.1,
        k2.1,
        ← n3.0,
        ← n3.1,
        ← n4.0,
        ← n4.1,
        k5.1,
        ← n6.0,
        ← n6.1,
        c.unwrap_or.ensures,
        c.is_some.ensures,
        c.unwrap_or-2.ensures,
        sparse_default c.in_ok-sparse.sparse (λ y d. grind arith) c.unwrap_or_default.ensures,
        c.is_some-2.ensures,
        c.is_some-placed.ensures,
      )
          refl,
    ))
