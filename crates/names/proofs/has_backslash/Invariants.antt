use Rattle.names.proofs.Strings.{Seen}
use Rattle.names.proofs.has_backslash.Given as goal

abbrev pub invariant-loop-b : goal.invariant-loop-b
invariant-loop-b l = Seen l.s l.seen l.b-index
