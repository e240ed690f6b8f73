-- `document::members::element_type` meets its contract.
-- Assumes nothing.
use mathlib.Core.Path.{◌∙◌, sym, refl}
use Rattle.nav.proofs.Navigation.{kind_stands}
use Rattle.document.proofs.Objects.{text_yes, text_no}
use Rattle.document.proofs.Placing.{at_some, at_none}
use Rattle.document.specs.Members.{type_member}
use Rattle.document.proofs.members.element_type.Goals as goal

pub returns-in_default : goal.returns-in_default
unfolding type_member
returns-in_default c = λ o t. rw (at_none t c.in_default.is)

pub returns-in-Text : goal.returns-in-Text
unfolding type_member
returns-in-Text c = λ o t.
    let g = at_some t c.in-Some.is in
    let k = kind_stands g.2 c.in-Text.ensures in
    let n = c.type_number.ensures g.0 g.2 in
    rw (g.1, text_yes g.0 (sym k ∙ refl), ← n)

pub returns-in_default-kind_at : goal.returns-in_default-kind_at
unfolding type_member
returns-in_default-kind_at c = λ o t.
    let g = at_some t c.in-Some.is in
    let k = kind_stands g.2 c.kind_at.ensures in
    rw (g.1, text_no g.0 (λ e. c.in_default-kind_at.not-Text (k ∙ e)))
