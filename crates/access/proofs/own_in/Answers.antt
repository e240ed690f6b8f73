use borrow.Author.Tests.{le-leb, lt-leb}
use mir.Syntax.{w64}
use mir.ValLaws.{to_z-of_z}
use Rattle.access.specs.Stages.{own_reading}
use Rattle.access.proofs.own_in.Goals as goal

pub returns-then-s-element : goal.returns-then-s-element
unfolding own_reading
returns-then-s-element c = rw (le-leb _ _ c.if-s-element.true)

pub returns-then-component_count-component : goal.returns-then-component_count-component
unfolding own_reading
returns-then-component_count-component c =
    rw (
      lt-leb _ _ c.if-s-element.false,
      ← c.component_count.ensures,
      le-leb _ _ c.if-component_count-component.true,
    )

pub own_value-requires : goal.own_value-requires
own_value-requires c =
    let p = c.requires in
    record { s_value = p.s_value; f_value = p.f_value; element_lt_count = (c.if-s-element.false, rw (← c.component_count.ensures) c.if-component_count-component.false) }

pub returns : goal.returns
unfolding own_reading
returns c =
    rw (
      to_z-of_z w64 c.own_value.result (record { sfits = c.own_value.type_inv }),
      c.own_value.ensures,
      lt-leb _ _ c.if-s-element.false,
      ← c.component_count.ensures,
      lt-leb _ _ c.if-component_count-component.false,
    )
