-- `graph::verdict::verdict` meets its contract. Assumes nothing.
use mathlib.Core.Path.{◌∙◌}
use Rattle.std.proofs.Common.{le-ltb}
use Rattle.graph.specs.Stream.{verdict_of}
use Rattle.graph.specs.Results.{outcome_of}
use Rattle.graph.proofs.Searches.{twice_found, item_some, item_none}
use Rattle.graph.proofs.verdict.verdict.Goals as goal

pub returns-in-Some : goal.returns-in-Some
unfolding verdict_of outcome_of
returns-in-Some c =
    let found = item_some _ _ _ (c.in-Some.ensures ∙ twice_found c.args.parents.now) in
    rw (le-ltb _ _ c.if-past-parents.false, found.1, found.0)

pub returns-in-Some-first_endless : goal.returns-in-Some-first_endless
unfolding verdict_of outcome_of
returns-in-Some-first_endless c =
    let found = item_some _ _ _ c.in-Some-first_endless.ensures in
    let none = item_none _ _ (c.in_default.ensures ∙ twice_found c.args.parents.now) in
    rw (le-ltb _ _ c.if-past-parents.false, none, found.1, found.0)

pub returns : goal.returns
unfolding verdict_of outcome_of
returns c =
    let none = item_none _ _ (c.in_default.ensures ∙ twice_found c.args.parents.now) in
    let ends = item_none _ _ c.in_default-first_endless.ensures in
    rw (le-ltb _ _ c.if-past-parents.false, none, ends) c.roots_verdict.ensures
