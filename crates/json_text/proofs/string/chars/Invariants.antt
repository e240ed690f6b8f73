-- An answer for the rest of the string from `i` on is one from `at` on.
use Rattle.std.proofs.Common.{◌-◌, ◌≤◌, ℕ, Result, length}
use Rattle.json_text.specs.declared.error.ScanError.{ScanError}
use Rattle.json_text.specs.Scans.{CharsSaid}
use Rattle.json_text.proofs.string.chars.Given as goal

abbrev pub invariant-loop-i : goal.invariant-loop-i
invariant-loop-i l = (l.i ≤ length l.s) × ((o : Result ℕ ScanError) → CharsSaid l.s l.i o → CharsSaid l.s l.at o)

abbrev pub decreases-loop-i : goal.decreases-loop-i
decreases-loop-i l = length l.s - l.i
