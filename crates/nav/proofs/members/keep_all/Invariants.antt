use mathlib.Core.List.{map}
use lib.ListN.{drop}
use Rattle.nav.proofs.Keeping.{KeptTo}
use Rattle.nav.proofs.members.keep_all.Given as goal

abbrev pub invariant-loop-i : goal.invariant-loop-i
invariant-loop-i l = KeptTo (drop l.at l.s) l.v l.i (map (λ k. k.now) l.words) l.initial.places l.places
