-- The cycle of calls {item, rest, value}. The measure is the levels left: the rest calls items, which call values, at
-- the same levels. The loop's invariant: an answer for the items from `i` on is one for the whole.
use Rattle.std.proofs.Common.{◌≤◌, ℕ, ◌+◌, ◌-◌, ◌*◌, length, Result}
use Rattle.json_text.specs.declared.error.ScanError.{ScanError}
use Rattle.json_text.specs.Scans.{OpenSaid, ItemsSaid, opening}
use Rattle.json_text.proofs.value.+item_rest_value.Given as goal

abbrev pub decreases-value : goal.decreases-value
decreases-value l = 3 * l.levels

abbrev pub decreases-item : goal.decreases-item
decreases-item l = 3 * l.levels + 1

abbrev pub decreases-rest : goal.decreases-rest
decreases-rest l = 3 * l.levels + 2

abbrev pub invariant-rest-loop-past : goal.invariant-rest-loop-past
invariant-rest-loop-past l =
    (l.i ≤ length l.s) ×
    ((o : Result ℕ ScanError) → ItemsSaid l.kind l.s l.i l.levels o → OpenSaid (opening l.kind) l.s l.at l.levels o)

abbrev pub decreases-rest-loop-past : goal.decreases-rest-loop-past
decreases-rest-loop-past l = length l.s - l.i
