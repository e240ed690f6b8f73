-- What the theorems on readings speak of: the bytes a reading looks at, the views named, files that are alike, the range
-- of a signed component. Assumes nothing: these are definitions.
use Rattle.std.specs.Prelude.{ℕ, ◌+◌, ◌<◌, ◌≤◌, ◌≡◌, true, false, List, ltb, ℤ, pos, negsuc, get_or, length}
use Rattle.tables.specs.declared.BufferView.{BufferView}
use Rattle.tables.specs.declared.selection.Extent.{Extent}
use Rattle.tables.specs.declared.selection.Selection.{Selection}
use Rattle.tables.specs.Elements.{component_size}
use Rattle.tables.specs.Places.{layout_in, component_at, index_at, value_at}
use Rattle.access.specs.Readings.{entry_for, replaced}

-- byte i is one of the n bytes from p on
abbrev pub Among : ℕ → ℕ → ℕ → Type 0
Among p n i = (p ≤ i) × (i < p + n)

-- byte i is looked at for component c of element e: a byte of a sparse index; of the values element, where a sparse entry
-- is equal to e; of the element in the accessor's own view, where none is
pub data LooksAt (f : List ℕ) (s : Selection) (e c i : ℕ) : Type 0 where
  index : s.accessor.has_sparse ≡ true → (k : ℕ) → k < s.accessor.sparse.count
      → Among (index_at s k) (layout_in s).index i → LooksAt f s e c i
  value : replaced f s e ≡ true
      → Among (value_at s (entry_for f s e) c) (component_size s.accessor.component_type) i → LooksAt f s e c i
  own : replaced f s e ≡ false → s.accessor.has_buffer_view ≡ true
      → Among (component_at s e c) (component_size s.accessor.component_type) i → LooksAt f s e c i

-- byte i of the file is one of the view's
abbrev pub InView : Extent → BufferView → ℕ → Type 0
InView x v i = Among (x.buffer_start + v.byte_offset) v.byte_length i

-- byte i lies in a view that the accessor names: its own, or one of the two of sparse
pub data Named (s : Selection) (i : ℕ) : Type 0 where
  own : s.accessor.has_buffer_view ≡ true → InView s.extent s.own i → Named s i
  indices : s.accessor.has_sparse ≡ true → InView s.extent s.indices i → Named s i
  values : s.accessor.has_sparse ≡ true → InView s.extent s.values i → Named s i

-- two files are alike to an accessor: the buffer lies in both or in neither, and they agree in the views that it names
pub record Alike (f g : List ℕ) (s : Selection) : Type 0 where
  pub fit : ltb (length f) (s.extent.buffer_start + s.extent.buffer_length)
      ≡ ltb (length g) (s.extent.buffer_start + s.extent.buffer_length)
  pub agree : (i : ℕ) → Named s i → get_or f i 0 ≡ get_or g i 0

-- from −half to half − 1; negsuc n is −(n + 1)
pub data Signed (half : ℕ) : ℤ → Type 0 where
  up : (n : ℕ) → n < half → Signed half (pos n)
  down : (n : ℕ) → n < half → Signed half (negsuc n)
