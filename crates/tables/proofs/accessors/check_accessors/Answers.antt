use Prim.Native.Nat.{min}
use mathlib.Core.Path.{◌≡◌, refl, sym, ◌∙◌}
use native.Mathlib.Omega.{arith}
use Rattle.tables.specs.Accessors.{accessor_fault, accessors_finding}
use Rattle.tables.proofs.Faults.{fault_least}
use Rattle.tables.proofs.Findings.{pass_none, pass_same, pass_next}
use Rattle.tables.proofs.accessors.check_accessors.Goals as goal
use Rattle.tables.proofs.accessors.check_accessors.Goals.{in-Err, in_default}

pub loop-i-init : goal.loop-i-init
loop-i-init c = pass_none _ 25 15 (omega arith)

pub loop-i-preserved : goal.loop-i-preserved
unfolding accessor_fault
loop-i-preserved c =
    let a = c.args in
    let f = rw (c.view_at-values.ensures, c.view_at-indices.ensures, c.view_at-own.ensures) at c.accessor_fault.ensures in
    let e = fault_least a.views a.view_records a.records a.placed c.loop-i.i _ refl in
    elim c.match-accessor_fault.branch [
      | in-Err w ↦ w.found-is ∙ w.first_of-found.ensures ∙ rw c.loop-i.invariant (pass_next _ 25 15 (omega arith) _ _ e w.in-Err.rule (sym w.in-Err.is ∙ f))
      | in_default w ↦ w.found-is ∙ c.loop-i.invariant ∙ pass_same _ 25 15 (omega arith) _ _ e (sym w.in_default.is ∙ f)
    ]

pub returns : goal.returns
unfolding accessors_finding
returns c = let e : c.loop-i.i ≡ min c.args.count 128 = omega arith in rw (← e) c.loop-i.invariant
