use mathlib.Core.Path.{◌≡◌}
use Rattle.graph.specs.Graph.{climb}
use Rattle.graph.specs.Stream.{up_in}
use Rattle.graph.proofs.verdict.is_endless.Given as goal

abbrev pub invariant-loop : goal.invariant-loop
invariant-loop l = l.at ≡ climb (up_in l.parents) l.counter l.x
