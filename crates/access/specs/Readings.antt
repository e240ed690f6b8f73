-- Component readings: 60, 63, 61, 62, and the value. Assumes nothing: these are definitions.
use Rattle.std.specs.Prelude.{ℕ, ◌+◌, ◌*◌, Bool, cond, ◌||◌, ◌&&◌, List, ltb, leb, eqb, ℤ, pos, length}
use Rattle.laws.specs.Bytes.{little_at}
use Rattle.laws.specs.Search.{least}
use Rattle.tables.specs.declared.Tables.{Tables}
use Rattle.tables.specs.declared.selection.Selection.{Selection}
use Rattle.tables.specs.Elements.{component_size, component_count}
use Rattle.tables.specs.Fitness.{selection_of, accessor_unfit}
use Rattle.tables.specs.Places.{layout_in, component_at, index_at, value_at}
use Rattle.access.specs.declared.Reading.{Reading}
use Rattle.access.specs.Numbers.{decode}

-- the component of this type that starts at byte p of the file
unfoldable pub number_at : List ℕ → ℕ → ℕ → ℤ
number_at file component_type p = decode component_type (little_at file p (component_size component_type))

-- the first of `count` indices, each of `size` bytes from byte `first` on, that is the element; `count` if there is none
unfoldable pub sparse_find : List ℕ → ℕ → ℕ → ℕ → ℕ → ℕ
sparse_find file first size count element = least (λ k. eqb (little_at file (first + size * k) size) element) count

-- the sparse entry whose values element stands in the element's place; the sparse count if there is none
unfoldable pub entry_for : List ℕ → Selection → ℕ → ℕ
entry_for file s element = sparse_find file (index_at s 0) (layout_in s).index s.accessor.sparse.count element

-- whether a sparse entry is equal to the element
unfoldable pub replaced : List ℕ → Selection → ℕ → Bool
replaced file s element = s.accessor.has_sparse && ltb (entry_for file s element) s.accessor.sparse.count

-- the component in the accessor's own view; without a bufferView every element is zero
unfoldable pub own_value : List ℕ → Selection → ℕ → ℕ → ℤ
own_value file s element component =
    cond s.accessor.has_buffer_view
    (number_at file s.accessor.component_type (component_at s element component))
    (pos 0)

-- the component in values element k
unfoldable pub entry_value : List ℕ → Selection → ℕ → ℕ → ℤ
entry_value file s k component = number_at file s.accessor.component_type (value_at s k component)

-- the component of the element: of the values element where a sparse entry is equal to it, else of the view
unfoldable pub value_in : List ℕ → Selection → ℕ → ℕ → ℤ
value_in file s element component =
    cond (replaced file s element)
    (entry_value file s (entry_for file s element) component)
    (own_value file s element component)

-- refused with this number: the value is 0
abbrev pub refused : ℕ → Reading
refused n = record { number = n; value = pos 0 }

-- answered: the number is 0
abbrev pub answered : ℤ → Reading
answered v = record { number = 0; value = v }

-- 63, then 61 (element not below count), then 62 (component not below the type's number), then the value
unfoldable pub component_in : List ℕ → Selection → ℕ → ℕ → Reading
component_in file s element component =
    cond (accessor_unfit (length file) s) (refused 63)
    (cond (leb s.accessor.count element) (refused 61)
    (cond (leb (component_count s.accessor.element_type) component) (refused 62)
    (answered (value_in file s element component))))

-- 60 (accessor index not below the count or 128), then the reading of the records that the accessor names
unfoldable pub component_of : List ℕ → Tables → ℕ → ℕ → ℕ → Reading
component_of file t accessor element component =
    cond (leb t.accessors accessor || leb 128 accessor) (refused 60)
    (component_in file (selection_of t accessor) element component)
