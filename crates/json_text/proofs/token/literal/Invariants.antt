-- An answer for the rest of the word is one for the word, from `at` on.
use Rattle.std.proofs.Common.{◌+◌, ◌≤◌, ℕ, Result, length, drop}
use Rattle.json_text.specs.declared.error.ScanError.{ScanError}
use Rattle.json_text.specs.Scans.{LitSaid}
use Rattle.json_text.proofs.token.literal.Given as goal

abbrev pub invariant-loop-k : goal.invariant-loop-k
invariant-loop-k l =
    (l.at + l.k ≤ length l.s) ×
    ((o : Result ℕ ScanError) → LitSaid l.s (l.at + l.k) (drop l.k l.word) o → LitSaid l.s l.at l.word o)
