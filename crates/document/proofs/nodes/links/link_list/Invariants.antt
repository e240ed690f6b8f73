use mathlib.Core.Path.{◌≡◌}
use mathlib.Core.Option.{Option}
use lib.ListN.{length}
use Rattle.json_text.specs.Tree.{Json}
use Rattle.nav.specs.Members.{FoundTree}
use Rattle.nav.specs.Results.{Placed}
use Rattle.graph.specs.Stream.{link_past, link_parents}
use Rattle.document.proofs.nodes.Going.{Going, left}
use Rattle.document.proofs.nodes.Streaming.{Fed}
use Rattle.document.proofs.nodes.links.link_list.Given as goal

abbrev pub invariant-loop-element : goal.invariant-loop-element
invariant-loop-element l = (length l.parents ≡ length l.initial.parents)
    × ((o : Option Json) → Placed (FoundTree l.s o) l.fn.at → Going l.s l.element
    (λ js. Fed (link_past (length l.initial.parents)) l.first o l.node l.past js × Fed link_parents l.initial.parents o l.node l.parents js))

abbrev pub decreases-loop-element : goal.decreases-loop-element
decreases-loop-element l = left l.s l.element
