use mathlib.Core.Path.{◌≡◌}
use Rattle.tables.specs.Findings.{finding_of}
use Rattle.tables.specs.Accessors.{accessor_broken}
use Rattle.tables.specs.Results.{outcome_of}
use Rattle.tables.proofs.accessors.check_accessors.Given as goal

abbrev pub invariant-loop-i : goal.invariant-loop-i
invariant-loop-i l =
    l.found ≡ outcome_of (finding_of (accessor_broken l.views l.view_records l.records l.placed) 25 15 l.i)
