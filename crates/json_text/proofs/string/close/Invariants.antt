-- The end from `at` on is the end from `i` on.
use Rattle.std.proofs.Common.{◌≡◌, ◌+◌, false, drop}
use Rattle.json_text.specs.Strings.{to_close}
use Rattle.json_text.proofs.string.close.Given as goal

abbrev pub invariant-loop-i : goal.invariant-loop-i
invariant-loop-i l = l.at + to_close false (drop l.at l.s) ≡ l.i + to_close l.hidden (drop l.i l.s)
