-- Where 63 is not given, the bytes of a component and of the sparse indices lie within the file, as the code adds them up.
-- Assumes nothing.
use Prim.Native.Nat.{ℕ, suc, ◌+◌, ◌*◌, ◌-◌, ◌<◌, ◌≤◌}
use mathlib.Core.Path.{◌≡◌, refl}
use mathlib.Core.Bool.{true, false, ◌||◌}
use native.Mathlib.Nat.{mul-suc}
use native.Mathlib.Omega.{arith}
use borrow.Author.Tests.{eqb-true}
use lib.Dec.{leb, eqb}
use lib.ListN.{length, take, drop}
use mathlib.Core.List.{List}
use Rattle.laws.proofs.Tests.{by_test}
use Rattle.tables.specs.declared.Tables.{Tables}
use Rattle.tables.specs.declared.selection.Selection.{Selection}
use Rattle.tables.specs.declared.selection.ViewSelection.{ViewSelection}
use Rattle.tables.specs.Elements.{component_size, component_count, component_place}
use Rattle.tables.specs.Accessors.{layout_of}
use Rattle.tables.specs.Fitness.{accessor_unfit, view_selection_of, view_unfit}
use Rattle.tables.specs.Places.{layout_in, first_byte, component_at, index_at, value_at}
use Rattle.tables.proofs.Fit.{good}
use Rattle.access.specs.Views.{view_start, view_number_in, view_number_of, view_place_of, view_of}
use Rattle.tables.proofs.Inside.{component_in_file, index_in_file, value_in_file, view_in_file}

pred : (n : ℕ) → 0 < n → suc (n - 1) ≡ n
pred n h = omega arith

module _ (s : Selection) where
  -- the place of a component in the accessor's own view, as a sum
  pub own_sum : (e c : ℕ)
      → s.extent.buffer_start + s.own.byte_offset + s.accessor.byte_offset
      + (layout_in s).stride * e
      + component_place (layout_in s).component s.accessor.element_type c
      ≡ component_at s e c
  unfolding component_at first_byte
  own_sum e c = refl

  -- in values element k
  pub entry_sum : (k c : ℕ)
      → s.extent.buffer_start + s.values.byte_offset + s.accessor.sparse.values_offset
      + (layout_in s).element * k
      + component_place (layout_in s).component s.accessor.element_type c
      ≡ value_at s k c
  unfolding value_at
  entry_sum k c = refl

  -- the place of the first index
  pub index_sum :
      s.extent.buffer_start + s.indices.byte_offset + s.accessor.sparse.indices_offset ≡ index_at s 0
  unfolding index_at
  index_sum = omega arith

  -- the size of a component
  pub component_size_lem : (layout_in s).component ≡ component_size s.accessor.component_type
  unfolding layout_of
  component_size_lem = refl

  -- the size of an index
  pub index_size : (layout_in s).index ≡ component_size s.accessor.sparse.indices_type
  unfolding layout_of
  index_size = refl

  -- index k, from the first one
  pub index_at_lem : (k : ℕ) → index_at s 0 + (layout_in s).index * k ≡ index_at s k
  unfolding index_at
  index_at_lem k = omega arith

module _ (bytes : ℕ) (s : Selection) (fit : accessor_unfit bytes s ≡ false) where
  pub own_fits : s.accessor.has_buffer_view ≡ true → (e c : ℕ) → e < s.accessor.count
      → c < component_count s.accessor.element_type
      → component_at s e c + component_size s.accessor.component_type ≤ bytes
  unfolding layout_of
  own_fits h e c he hc = component_in_file bytes s (good bytes s fit) h e c he hc

  pub entry_fits : s.accessor.has_sparse ≡ true → (k c : ℕ) → k < s.accessor.sparse.count
      → c < component_count s.accessor.element_type
      → value_at s k c + component_size s.accessor.component_type ≤ bytes
  unfolding layout_of
  entry_fits h k c hk hc = value_in_file bytes s (good bytes s fit) h k c hk hc

  pub indices_fit : s.accessor.has_sparse ≡ true
      → index_at s 0 + (layout_in s).index * s.accessor.sparse.count ≤ bytes
  indices_fit h =
      let g = (good bytes s fit).sparse h in
      let n = s.accessor.sparse.count in
      let l = index_in_file bytes s (good bytes s fit) h (n - 1) (omega (arith, g.some)) in
      let e : (layout_in s).index * n ≡ (layout_in s).index * (n - 1) + (layout_in s).index =
      rw (pred n g.some) at (mul-suc (layout_in s).index (n - 1)) in
      omega (arith, l, index_at_lem s (n - 1))

-- a view with the number 0 is not refused
pub answered_fits : (bytes : ℕ) (s : ViewSelection) (i : ℕ) → view_number_in bytes s i ≡ 0 → view_unfit bytes s ≡ false
unfolding view_number_in
answered_fits bytes s i e =
    by_test (view_unfit bytes s)
    (λ t. by_test (leb s.extent.views i || leb 64 i)
    (λ u. absurd (omega (arith, rw u at e)))
    (λ u. absurd (omega (arith, rw (u, t) at e))))
    (λ t. t)

-- the place of a view lies within the file, ..
pub place_in_file : (f : List ℕ) (t : Tables) (i : ℕ)
    → (view_place_of f t i).start + (view_place_of f t i).length ≤ length f
unfolding view_place_of view_number_of view_start
place_in_file f t i =
    let s = view_selection_of t i in
    by_test (eqb (view_number_in (length f) s i) 0)
    (λ e. rw e (view_in_file (length f) s (answered_fits (length f) s i (eqb-true _ 0 e))))
    (λ e. rw e (omega arith))

-- .. and the view is the bytes there
pub view_at_place : (f : List ℕ) (t : Tables) (i : ℕ)
    → take (view_place_of f t i).length (drop (view_place_of f t i).start f) ≡ view_of f t i
unfolding view_place_of view_of
view_at_place f t i = by_test (eqb (view_number_of f t i) 0) (λ e. rw e) (λ e. rw e)
