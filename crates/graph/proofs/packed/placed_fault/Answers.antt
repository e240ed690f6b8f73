-- `graph::packed::placed_fault` meets its contract. Assumes nothing.
use mathlib.Core.Path.{sym, ap, ◌∙◌}
use native.Mathlib.Omega.{arith}
use Rattle.graph.specs.Packing.{packed_lists}
use Rattle.graph.specs.Results.{outcome_of}
use Rattle.graph.proofs.Placing.{placed, length-packed}
use Rattle.graph.proofs.Streams.{stream_verdict}
use Rattle.graph.proofs.packed.placed_fault.Goals as goal

pub returns : goal.returns
returns c =
    let nodes = c.args.nodes.now.lists in
    let scenes = c.args.scenes.now.lists in
    let kids = packed_lists nodes.starts.now nodes.lengths.now nodes.entries.now nodes.count in
    let roots = packed_lists scenes.starts.now scenes.lengths.now scenes.entries.now scenes.count in
    let counted = length-packed nodes.starts.now nodes.lengths.now nodes.entries.now nodes.count in
    let few = (placed c.args.nodes.now.in_place).fits in
    c.verdict.ensures
    ∙ ap outcome_of
    (stream_verdict kids roots (omega (arith, few, counted))
    c.children_past-past.ensures.0 c.children_past-past.ensures.1
    c.roots_found-found.ensures
    (sym (length-packed scenes.starts.now scenes.lengths.now scenes.entries.now scenes.count)))
