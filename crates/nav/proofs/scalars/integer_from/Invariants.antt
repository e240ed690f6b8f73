use mathlib.Core.Path.{◌≡◌}
use lib.ListN.{drop}
use Rattle.nav.specs.Integers.{spelled}
use Rattle.nav.proofs.Numerals.{integer_from}
use Rattle.nav.proofs.scalars.integer_from.Given as goal

abbrev pub invariant-loop-b : goal.invariant-loop-b
invariant-loop-b l = integer_from l.n (drop l.b-index l.bytes) ≡ spelled l.bytes
