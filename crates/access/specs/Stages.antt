-- A reading in the stages in which the code makes it. Assumes nothing: these are definitions.
use Rattle.std.specs.Prelude.{ℕ, cond, List, leb}
use Rattle.tables.specs.declared.selection.Selection.{Selection}
use Rattle.tables.specs.Elements.{component_count}
use Rattle.access.specs.declared.Reading.{Reading}
use Rattle.access.specs.Readings.{own_value, refused, answered}

-- where 63 is not given: 61, then 62, then the value in the accessor's own view
unfoldable pub own_reading : List ℕ → Selection → ℕ → ℕ → Reading
own_reading file s element component =
    cond (leb s.accessor.count element) (refused 61)
    (cond (leb (component_count s.accessor.element_type) component) (refused 62)
    (answered (own_value file s element component)))
