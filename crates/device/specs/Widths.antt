-- How many words each record is. Assumes nothing.
use Rattle.std.specs.Prelude.{ℕ, ◌≡◌, [], ◌∷◌, length}
use mathlib.Core.Path.{refl}
use Rattle.tables.specs.declared.BufferView.{BufferView}
use Rattle.tables.specs.declared.Accessor.{Accessor}
use Rattle.tables.specs.declared.List.{List}
use Rattle.tables.specs.declared.Tables.{Tables}
use Rattle.device.specs.Words.{view_words, accessor_words, list_words, head_words}

pub view_width : (v : BufferView) → length (view_words v) ≡ 8
unfolding view_words
view_width v = refl

pub accessor_width : (a : Accessor) → length (accessor_words a) ≡ 16
unfolding accessor_words
accessor_width a = refl

pub list_width : (r : List) → length (list_words r) ≡ 2
unfolding list_words
list_width r = refl

pub head_width : (t : Tables) → length (head_words t) ≡ 16
unfolding head_words
head_width t = refl

pub number_width : (n : ℕ) → length (n ∷ []) ≡ 1
number_width n = refl
