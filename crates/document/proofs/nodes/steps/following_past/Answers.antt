-- `document::nodes::steps::following_past` meets its contract. Assumes nothing.
use mathlib.Core.Path.{ap, ◌∙◌}
use Rattle.nav.proofs.Navigation.{placed_some, past_next}
use Rattle.document.specs.Walks.{place_of}
use Rattle.document.proofs.nodes.steps.following_past.Goals as goal

pub returns-in-Some : goal.returns-in-Some
returns-in-Some c = λ p.
    let a = c.args in
    let u = placed_some p c.in-Some.is in
    c.place.ensures ∙ ap place_of (c.next_past.ensures ∙ past_next a.s.now a.at u.0 u.1)
