-- Where last_item_kept plants, `grind arith` takes the value from the facts, so that a wrong one is refused by what it says.
use Prim.Native.Nat.{min}
use mathlib.Core.Path.{◌≡◌, refl, sym, ◌∙◌}
use native.Mathlib.Omega.{arith}
use Rattle.tables.specs.Views.{views_finding}
use Rattle.tables.specs.Results.{first_of}
use Rattle.tables.proofs.Findings.{pass_none, pass_same, pass_next}
use Rattle.tables.proofs.views.check_views.Goals as goal
use Rattle.tables.proofs.views.check_views.Goals.{in-Err, in_default}

pub loop-i-init : goal.loop-i-init
loop-i-init c = pass_none _ 21 4 (omega arith)

pub loop-i-preserved : goal.loop-i-preserved
loop-i-preserved c =
    let f = c.view_fault.ensures in
    elim c.match-view_fault.branch [
      | in-Err w ↦
          let e : w.first_of-found.result ≡ first_of c.loop-i.found (record { rule = w.in-Err.rule; item = c.loop-i.i }) = grind arith in
          w.found-is ∙ e ∙ rw c.loop-i.invariant (pass_next _ 21 4 (omega arith) _ _ refl w.in-Err.rule (sym w.in-Err.is ∙ f))
      | in_default w ↦ w.found-is ∙ c.loop-i.invariant ∙ pass_same _ 21 4 (omega arith) _ _ refl (sym w.in_default.is ∙ f)
    ]

pub returns : goal.returns
unfolding views_finding
returns c = let e : c.loop-i.i ≡ min c.args.count 64 = omega arith in rw (← e) c.loop-i.invariant
