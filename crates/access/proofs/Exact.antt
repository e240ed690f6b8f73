-- What the readings mean: when they answer, the bytes they look at, which files give the same, and how far numbers reach.
-- Assumes nothing.
use Prim.Native.Nat.{ℕ, suc, ◌+◌, ◌-◌, ◌<◌, ◌≤◌}
use mathlib.Core.Path.{◌≡◌, refl}
use mathlib.Core.Bool.{false}
use mathlib.Core.List.{List, []}
use native.Mathlib.Omega.{arith}
use borrow.Author.Tests.{lt-leb, ltb-true, ltb-false, ne_eqb}
use lib.Dec.{ltb}
use lib.IntN.{pos, negsuc}
use lib.ListN.{get_or, length, length-take, length-drop}
use Rattle.laws.specs.Bytes.{little_at}
use Rattle.laws.proofs.Bytes.{Bytes, little_at_lt}
use Rattle.laws.proofs.Tests.{by_test}
use Rattle.tables.specs.declared.Tables.{Tables}
use Rattle.tables.specs.declared.selection.Selection.{Selection}
use Rattle.tables.specs.Elements.{component_size, component_count}
use Rattle.tables.specs.Fitness.{selection_of, view_selection_of, accessor_unfit}
use Rattle.tables.proofs.Fit.{view_fits}
use Rattle.access.specs.Numbers.{twos, decode}
use Rattle.access.specs.Readings.{number_at, value_in, answered, component_in, component_of}
use Rattle.access.specs.Views.{view_start, view_number_of, view_of}
use Rattle.access.specs.Meaning.{LooksAt, Named, Alike, Signed}
use Rattle.access.proofs.Signs.{minus}
use Rattle.access.proofs.Fits.{answered_fits}
use Rattle.access.proofs.Alike.{value_like, looks_named, named_inside, reading_like}

-- below the count and 128 a reading on tables is the reading of the records selected
pub component_agrees : (f : List ℕ) (t : Tables) (a e c : ℕ) → a < t.accessors → a < 128
    → component_of f t a e c ≡ component_in f (selection_of t a) e c
unfolding component_of
component_agrees f t a e c h k = rw (lt-leb _ _ h, lt-leb _ _ k)

module _ (f : List ℕ) (s : Selection) (e c : ℕ) (fit : accessor_unfit (length f) s ≡ false) (he : e < s.accessor.count)
    (hc : c < component_count s.accessor.element_type) where
  -- where 63 does not hold, and element and component are below their counts, the reading answers
  pub component_answers : component_in f s e c ≡ answered (value_in f s e c)
  unfolding component_in
  component_answers = rw (fit, lt-leb _ _ he, lt-leb _ _ hc)

  -- every byte looked at lies in a view that the accessor names, and in the file
  pub component_inside : (i : ℕ) → LooksAt f s e c i → Named s i × (i < length f)
  component_inside i l =
      let n = looks_named f s e c fit he hc i l in (n, named_inside (length f) s fit i n)

-- no other byte is looked at: the value is that of any file with the same bytes there
pub component_looks : (f g : List ℕ) (s : Selection) (e c : ℕ)
    → ((i : ℕ) → LooksAt f s e c i → get_or f i 0 ≡ get_or g i 0) → value_in f s e c ≡ value_in g s e c
component_looks = value_like

-- likeness: files that are alike to the accessor give the same number and the same value for every component, ..
pub component_alike : (f g : List ℕ) (s : Selection) (e c : ℕ) → Alike f g s → component_in f s e c ≡ component_in g s e c
component_alike = reading_like

-- .. also on tables
pub tables_alike : (f g : List ℕ) (t : Tables) (a e c : ℕ) → Alike f g (selection_of t a)
    → component_of f t a e c ≡ component_of g t a e c
unfolding component_of
tables_alike f g t a e c k = rw (reading_like f g (selection_of t a) e c k)

-- two's complement reaches from −half to half − 1
pub twos_signed : (half n : ℕ) → n < half + half → Signed half (twos half n)
unfolding twos
twos_signed half n h =
    by_test (ltb n half) (λ t. rw t (Signed.up n (ltb-true _ _ t)))
    (λ t. rw (t, minus n (half + half) h) (Signed.down (half + half - suc n) (omega (arith, ltb-false n half t))))

-- a component of 5120 is from −128 to 127, ..
pub bytes_signed : (f : List ℕ) → Bytes f → (p : ℕ) → Signed 128 (number_at f 5120 p)
unfolding number_at decode component_size
bytes_signed f b p = twos_signed 128 (little_at f p 1) (omega (arith, little_at_lt f b p 1))

-- .. and of 5122 from −32768 to 32767
pub shorts_signed : (f : List ℕ) → Bytes f → (p : ℕ) → Signed 32768 (number_at f 5122 p)
unfolding number_at decode component_size
shorts_signed f b p = twos_signed 32768 (little_at f p 2) (omega (arith, little_at_lt f b p 2))

-- worked examples: both ends of 5120 and 5122, −1, and the unsigned ones
pub ends : (decode 5120 0x7F ≡ pos 127) × (decode 5120 0x80 ≡ negsuc 127) × (decode 5120 0xFF ≡ negsuc 0)
    × (decode 5122 0x7FFF ≡ pos 32767) × (decode 5122 0x8000 ≡ negsuc 32767) × (decode 5122 0xFFFF ≡ negsuc 0)
    × (decode 5121 0xFF ≡ pos 255) × (decode 5123 0xFFFF ≡ pos 65535) × (decode 5126 0xFFFFFFFF ≡ pos 4294967295)
unfolding decode twos
ends = (refl, refl, refl, refl, refl, refl, refl, refl, refl)

module _ (f : List ℕ) (t : Tables) (i : ℕ) where
  -- a view with the number 0 lies in the buffer, and that in the file; ..
  pub view_inside : view_number_of f t i ≡ 0
      → (view_start (view_selection_of t i) + (view_selection_of t i).view.byte_length
      ≤ (view_selection_of t i).extent.buffer_start + (view_selection_of t i).extent.buffer_length)
      × ((view_selection_of t i).extent.buffer_start + (view_selection_of t i).extent.buffer_length ≤ length f)
  unfolding view_number_of view_start
  view_inside h =
      let g = view_fits (length f) (view_selection_of t i) (answered_fits (length f) (view_selection_of t i) i h) in
      (omega (arith, g.1.within), g.0.buffer)

  -- .. it has byteLength bytes; ..
  pub view_length : view_number_of f t i ≡ 0 → length (view_of f t i) ≡ (view_selection_of t i).view.byte_length
  unfolding view_of view_start
  view_length h = rw h (simp (length-take, length-drop) (omega (arith, view_inside h)))

  -- .. any other number gives an empty part
  pub view_refused : (view_number_of f t i ≡ 0 → ⊥) → view_of f t i ≡ []
  unfolding view_of
  view_refused h = rw (ne_eqb _ _ h)
