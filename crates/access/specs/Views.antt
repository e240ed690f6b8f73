-- Buffer view lookup: 67, 63, and the bytes. Assumes nothing: these are definitions.
use Rattle.std.specs.Prelude.{ℕ, ◌+◌, ◌≡◌, cond, ◌||◌, List, leb, eqb, length, take, drop}
use Rattle.std.specs.Borrow.{Bor}
use Rattle.tables.specs.declared.Tables.{Tables}
use Rattle.tables.specs.declared.selection.ViewSelection.{ViewSelection}
use Rattle.tables.specs.Fitness.{view_selection_of, view_unfit}
use Rattle.access.specs.declared.Place.{Place}

-- where the view starts in the file: the buffer's first byte and the view's byteOffset
unfoldable pub view_start : ViewSelection → ℕ
view_start s = s.extent.buffer_start + s.view.byte_offset

-- 67 (view index not below the count or 64), then 63; 0 where the view is answered
unfoldable pub view_number_in : ℕ → ViewSelection → ℕ → ℕ
view_number_in bytes s i = cond (leb s.extent.views i || leb 64 i) 67 (cond (view_unfit bytes s) 63 0)

-- the number for view i of the tables
unfoldable pub view_number_of : List ℕ → Tables → ℕ → ℕ
view_number_of file t i = view_number_in (length file) (view_selection_of t i) i

-- where the answered part lies in the file; refused, start and length are 0
unfoldable pub view_place_of : List ℕ → Tables → ℕ → Place
view_place_of file t i =
    cond (eqb (view_number_of file t i) 0)
    (record { start = view_start (view_selection_of t i); length = (view_selection_of t i).view.byte_length })
    (record { start = 0; length = 0 })

-- that view's byteLength bytes from where it starts; refused, an empty part
unfoldable pub view_of : List ℕ → Tables → ℕ → List ℕ
view_of file t i =
    cond (eqb (view_number_of file t i) 0)
    (take (view_selection_of t i).view.byte_length (drop (view_start (view_selection_of t i)) file))
    (take 0 file)

-- the part lies in the lent bytes themselves: its pointer is theirs, n bytes on (a pointer is a block and an offset in it)
abbrev pub StartsAt : Bor (List ℕ) → Bor (List ℕ) → ℕ → Type 0
StartsAt part lent n = part.ref_ptr ≡ (lent.ref_ptr.0, lent.ref_ptr.1 + n)
