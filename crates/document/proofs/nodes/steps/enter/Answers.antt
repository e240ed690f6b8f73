-- `document::nodes::steps::enter` meets its contract. Assumes nothing.
use mathlib.Core.Path.{refl}
use Rattle.nav.proofs.Navigation.{vacant, barred}
use Rattle.document.proofs.Passes.{array_empty, array_not}
use Rattle.document.proofs.nodes.Entering.{enters_absent, enters_more, enters_none}
use Rattle.document.proofs.nodes.steps.enter.Goals as goal

pub returns-in_default : goal.returns-in_default
returns-in_default c = enters_absent c.args.s.now c.in_default.is

pub returns-in-More : goal.returns-in-More
returns-in-More c = enters_more c.args.s.now c.in-Some.is c.in-More.ensures refl

pub returns-in-End : goal.returns-in-End
returns-in-End c =
    let s = c.args.s.now in
    enters_none s c.in-Some.is (λ f j t. array_empty f (vacant s c.in-Some.at c.in-End.ensures refl t))

pub returns-in-Bad : goal.returns-in-Bad
returns-in-Bad c =
    let s = c.args.s.now in
    enters_none s c.in-Some.is (λ f j t. array_not f j (barred s c.in-Some.at c.in-Bad.ensures refl t))
