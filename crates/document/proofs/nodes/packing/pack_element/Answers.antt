-- `document::nodes::packing::pack_element` meets its contract. Assumes nothing.
use Prim.Native.Nat.{◌-◌}
use native.Mathlib.Omega.{arith}
use mathlib.Core.Path.{refl, ◌∙◌}
use lib.Dec.{eqb}
use Rattle.nav.proofs.Navigation.{gather_member, gather_past}
use Rattle.document.proofs.Keeping.{unfit}
use Rattle.document.proofs.Placing.{past_ok, past_err}
use Rattle.document.proofs.nodes.Storing.{start_low}
use Rattle.document.proofs.nodes.Turns.{element_broken}
use Rattle.document.proofs.nodes.packing.pack_element.Goals as goal

pub returns-in_err-past : goal.returns-in_err-past
returns-in_err-past c =
    let s = c.args.s.now in
    let x = past_err (gather_past s c.args.at _ c.gather.ensures) unfit c.ok_or.ensures.value c.in_err-past.was in
    element_broken c.from_residual.ensures.0 (λ j t. rw (x j t) refl)

pub returns-in_err-end : goal.returns-in_err-end
returns-in_err-end c =
    let s = c.args.s.now in
    let at = c.args.at in
    let e = c.gather.ensures in
    let x = past_ok (gather_past s at _ e) unfit c.ok_or.ensures.value c.in_ok-past.was in
    element_broken c.from_residual-in_err-end.ensures.0
    (λ j t. rw (x.2 j t, ← c.in_err-end.ensures.good _ (gather_member s at _ e t 0 (omega arith) (omega arith))) refl)

pub overflow_cast-start : goal.overflow_cast-start
overflow_cast-start c =
    let used = c.args.used in
    let low = start_low (eqb (c.in_ok-end.end - used) 0) used in
    omega (arith, c.start_of-start.ensures, low, c.requires.used_in_bounds, c.requires.entries_len_bound)

pub returns : goal.returns
returns c =
    let s = c.args.s.now in
    let at = c.args.at in
    let e = c.gather.ensures in
    let t = c.in_ok-end.ensures in
    let x = past_ok (gather_past s at _ e) unfit c.ok_or.ensures.value c.in_ok-past.was in
    record {
      packs = record {
        end = x.1;
        some = λ z. absurd (omega (arith, x.0, z));
        more = t.more;
        within = t.within;
        listed = c.put.ensures ∙ rw c.start_of-start.ensures refl;
        taken = λ j u. t.taken _ (gather_member s at _ e u 0 (omega arith) (omega arith));
        kept = λ j u. t.kept _ (gather_member s at _ e u 0 (omega arith) (omega arith));
      };
      good = λ j u. rw (x.2 j u, ← t.good _ (gather_member s at _ e u 0 (omega arith) (omega arith))) refl;
    }
