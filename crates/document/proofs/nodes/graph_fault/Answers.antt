-- `document::nodes::graph_fault` meets its contract. Assumes nothing.
use mathlib.Core.Path.{refl, sym, ◌∙◌}
use Rattle.graph.proofs.Placing.{taken}
use Rattle.document.proofs.nodes.graph_fault.Goals as goal

pub slice_bounds-lists_fault-end : goal.slice_bounds-lists_fault-end
slice_bounds-lists_fault-end c = sym (taken c.args.nodes c.requires.nodes_bound)

pub slice_bounds-lists_fault-end-2 : goal.slice_bounds-lists_fault-end-2
slice_bounds-lists_fault-end-2 c = sym (taken c.args.nodes c.requires.nodes_bound)

pub lists_fault-requires : goal.lists_fault-requires
lists_fault-requires c =
    record { parents_len_bound = rw (taken c.args.nodes c.requires.nodes_bound) c.requires.nodes_bound; marks_len = refl; scenes_bound = c.requires.scenes_bound }

pub returns : goal.returns
returns c = λ o p f g h k.
    c.lists_fault.ensures o p f g (h ∙ sym (taken c.args.nodes c.requires.nodes_bound)) k
