-- `document::records::read_from` meets its contract.
-- Assumes nothing.
use mathlib.Core.Path.{refl}
use native.Mathlib.Omega.{arith}
use Rattle.nav.proofs.Navigation.{next_later}
use Rattle.document.proofs.Keeping.{failed}
use Rattle.document.proofs.Passes.{read_none, read_unfit, step_past, read_more, read_all, read_never}
use Rattle.document.proofs.records.read_from.Goals as goal

pub loop-past-init : goal.loop-past-init
loop-past-init g c =
    let a = c.args in
    (omega arith, omega arith, λ js w. read_none a.at w c.requires.none)

pub returns-in_err-past : goal.returns-in_err-past
returns-in_err-past g c = λ js w.
    rw (read_unfit (c.loop-past.invariant.2 js w) c.take.ensures c.in_err-past.was, failed c.from_residual.ensures.0) refl

pub loop-past-smaller : goal.loop-past-smaller
loop-past-smaller g c =
    let m = next_later c.args.s.now c.loop-past.i (step_past c.loop-past.i c.take.ensures c.in_ok-past.was c.in-More.ensures) refl in
    omega arith

pub loop-past-preserved : goal.loop-past-preserved
loop-past-preserved g c =
    let m = next_later c.args.s.now c.loop-past.i (step_past c.loop-past.i c.take.ensures c.in_ok-past.was c.in-More.ensures) refl in (
      m.1,
      omega arith,
      λ js w. read_more (c.loop-past.invariant.2 js w) c.take.ensures c.in_ok-past.was c.in-More.ensures refl,
    )

pub returns-in-End : goal.returns-in-End
returns-in-End g c = λ js w.
    let x = read_all (c.loop-past.invariant.2 js w) c.take.ensures c.in_ok-past.was c.in-End.ensures refl in
    rw (x.0, ← x.1, ← x.2)

pub returns-in-Bad : goal.returns-in-Bad
returns-in-Bad g c = λ js w.
    absurd (read_never (c.loop-past.invariant.2 js w) c.take.ensures c.in_ok-past.was c.in-Bad.ensures refl)
