-- An answer for the digits that are left is one for all, from `at` on.
use Rattle.std.proofs.Common.{◌+◌, ◌-◌, ◌≤◌, ℕ, Result, length}
use Rattle.json_text.specs.declared.error.ScanError.{ScanError}
use Rattle.json_text.specs.Scans.{HexSaid}
use Rattle.json_text.proofs.string.hex.Given as goal

abbrev pub invariant-loop-k : goal.invariant-loop-k
invariant-loop-k l =
    (l.at + l.k ≤ length l.s) ×
    ((o : Result ℕ ScanError) → HexSaid l.s (l.at + l.k) (l.count - l.k) o → HexSaid l.s l.at l.count o)
