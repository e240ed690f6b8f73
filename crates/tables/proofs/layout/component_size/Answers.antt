use mathlib.Core.Path.{◌≡◌, refl}
use Rattle.tables.specs.Elements.{component_size}
use Rattle.tables.proofs.Elements.{either}
use Rattle.tables.proofs.layout.component_size.Goals as goal

pub returns-then-t : goal.returns-then-t
unfolding component_size
returns-then-t c = either (λ t. 4 ≡ component_size t) c.args.component_type 5125 5126 c.if-t.true refl refl

pub returns-then-t-2 : goal.returns-then-t-2
unfolding component_size
returns-then-t-2 c = either (λ t. 2 ≡ component_size t) c.args.component_type 5122 5123 c.if-t-2.true refl refl

pub returns-then-t-3 : goal.returns-then-t-3
unfolding component_size
returns-then-t-3 c = rw c.if-t-3.true

pub returns-else-t-3 : goal.returns-else-t-3
unfolding component_size
returns-else-t-3 c = rw (c.if-t-3.false, c.if-t-2.false, c.if-t.false)
