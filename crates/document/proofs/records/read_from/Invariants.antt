use Prim.Native.Nat.{◌-◌, ◌≤◌}
use lib.ListN.{length, drop}
use Rattle.json_text.specs.Tree.{Values}
use Rattle.nav.specs.Places.{Walk}
use Rattle.document.proofs.Passes.{Read}
use Rattle.document.proofs.records.read_from.Given as goal

abbrev pub invariant-loop-past : goal.invariant-loop-past
invariant-loop-past g l = (l.i ≤ length l.s) × (l.count ≤ l.i)
    × ((js : Values) → Walk (drop l.at l.s) js
    → Read g.R.Records.fits g.R.Records.keeps l.s js l.i l.count l.records)

abbrev pub decreases-loop-past : goal.decreases-loop-past
decreases-loop-past g l = length l.s - l.i
