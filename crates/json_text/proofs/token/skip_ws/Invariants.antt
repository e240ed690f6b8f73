-- White space from `i` on is white space from `at` on.
use Rattle.std.proofs.Common.{◌≤◌, ℕ, List, length, drop}
use Rattle.json_text.specs.Grammar.{Ws}
use Rattle.json_text.proofs.token.skip_ws.Given as goal

abbrev pub invariant-loop-i : goal.invariant-loop-i
invariant-loop-i l = (l.i ≤ length l.s) × ((r : List ℕ) → Ws (drop l.i l.s) r → Ws (drop l.at l.s) r)
