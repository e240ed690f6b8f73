use mathlib.Core.Path.{◌≡◌}
use Rattle.tables.specs.Findings.{finding_of}
use Rattle.tables.specs.Views.{view_broken}
use Rattle.tables.specs.Results.{outcome_of}
use Rattle.tables.proofs.views.check_views.Given as goal

abbrev pub invariant-loop-i : goal.invariant-loop-i
invariant-loop-i l = l.found ≡ outcome_of (finding_of (view_broken l.buffers l.buffer_length l.records) 21 4 l.i)
