use mathlib.Core.Path.{◌∙◌}
use mir.Syntax.{w64}
use mir.ValLaws.{to_z-of_z}
use Rattle.tables.proofs.Elements.{size_is}
use Rattle.access.specs.Readings.{number_at}
use Rattle.access.proofs.numbers.number_at.Goals as goal

pub little_at-requires : goal.little_at-requires
little_at-requires c =
    record { size_in_bounds = c.requires.size_in_bounds; size_value = rw c.requires.size_value (size_is c.args.component_type) }

pub decoded-requires : goal.decoded-requires
decoded-requires c = rw (← c.requires.size_value) c.little_at.ensures.1

pub returns : goal.returns
unfolding number_at
returns c =
    to_z-of_z w64 c.decoded.result (record { sfits = c.decoded.type_inv })
    ∙ c.decoded.ensures
    ∙ rw (c.little_at.ensures.0, c.requires.size_value)
