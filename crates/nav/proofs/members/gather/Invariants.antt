use mathlib.Core.Path.{◌≡◌}
use mathlib.Core.List.{map}
use lib.ListN.{length}
use Rattle.nav.proofs.Gathering.{Gathering, left}
use Rattle.nav.proofs.members.gather.Given as goal

abbrev pub invariant-loop-member : goal.invariant-loop-member
invariant-loop-member g l = Gathering l.s l.at (map (λ k. k.now) l.words) l.member l.places × (length l.places ≡ g.row.N)

abbrev pub decreases-loop-member : goal.decreases-loop-member
decreases-loop-member g l = left l.s l.member
