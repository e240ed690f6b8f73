use mathlib.Core.Path.{◌≡◌}
use mathlib.Core.Option.{Option}
use lib.ListN.{length}
use Rattle.json_text.specs.Tree.{Json}
use Rattle.nav.specs.Members.{FoundTree}
use Rattle.nav.specs.Results.{Placed}
use Rattle.graph.specs.Stream.{link_past, link_parents}
use Rattle.document.specs.Lists.{lists_of}
use Rattle.document.proofs.nodes.Going.{Going}
use Rattle.document.proofs.nodes.Streaming.{FedAll}
use Rattle.document.proofs.nodes.links.link_nodes.Given as goal

abbrev pub invariant-loop-node : goal.invariant-loop-node
invariant-loop-node l = (length l.parents ≡ length l.fn.parents)
    × ((o : Option Json) → Placed (FoundTree l.s o) l.fn.at → length (lists_of l.word o) ≡ length l.fn.parents → Going l.s l.element
    (λ js. FedAll (link_past (length l.fn.parents)) (length l.fn.parents) l.word o l.node l.past js × FedAll link_parents l.initial.parents l.word o l.node l.parents js))
