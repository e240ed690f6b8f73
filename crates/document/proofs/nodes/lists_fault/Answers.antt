-- `document::nodes::lists_fault` meets its contract. Assumes nothing.
use native.Mathlib.Omega.{arith}
use mathlib.Core.Path.{sym, ap, ◌∙◌}
use Rattle.graph.specs.Results.{outcome_of}
use Rattle.graph.proofs.Streams.{stream_verdict}
use Rattle.document.specs.Lists.{nodes_of, roots_of}
use Rattle.document.proofs.nodes.lists_fault.Goals as goal

pub link_nodes-past-requires : goal.link_nodes-past-requires
link_nodes-past-requires c = c.requires.parents_len_bound

pub root_scenes-found-requires : goal.root_scenes-found-requires
root_scenes-found-requires c =
    record { scenes_bound = c.requires.scenes_bound; marks_len = c.requires.marks_len ∙ sym c.link_nodes-past.auto.parents }

pub returns : goal.returns
returns c = λ o p f g h k.
    let fed = c.link_nodes-past.ensures o f h in
    c.verdict.ensures
    ∙ ap outcome_of
    (stream_verdict (nodes_of o) (roots_of p) (omega (arith, h, c.requires.parents_len_bound)) fed.0 fed.1
    (c.root_scenes-found.ensures p g k) (sym k))
