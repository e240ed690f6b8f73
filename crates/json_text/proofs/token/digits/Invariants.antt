-- Digits from `i` on are digits from `at` on.
use Rattle.std.proofs.Common.{◌≤◌, ℕ, List, length, drop}
use Rattle.json_text.specs.Grammar.{Digits}
use Rattle.json_text.proofs.token.digits.Given as goal

abbrev pub Some : List ℕ → List ℕ → Type 0
Some w r = (ds : List ℕ) × Digits w ds r

abbrev pub invariant-loop-i : goal.invariant-loop-i
invariant-loop-i l = (l.i ≤ length l.s) × ((r : List ℕ) → Some (drop l.i l.s) r → Some (drop l.at l.s) r)
