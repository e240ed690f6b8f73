-- The value by cases: of a sparse entry, of the accessor's own view.
-- Assumes nothing.
use Prim.Native.Nat.{ℕ, ◌<◌, ◌≤◌}
use mathlib.Core.Path.{◌≡◌, ap, ◌∙◌}
use mathlib.Core.Bool.{Bool, true, false, cond, ◌&&◌}
use mathlib.Core.List.{List}
use borrow.Author.Tests.{lt-ltb, le-ltb}
use lib.Dec.{ltb}
use Rattle.tables.specs.declared.selection.Selection.{Selection}
use lib.IntN.{pos}
use Rattle.tables.specs.Places.{component_at}
use Rattle.tables.proofs.Truth.{and_left, and_right}
use Rattle.access.specs.Readings.{number_at, entry_for, replaced, own_value, entry_value, value_in}

module _ (f : List ℕ) (s : Selection) (e c : ℕ) where
  by : (b : Bool) → replaced f s e ≡ b → value_in f s e c ≡ cond b (entry_value f s (entry_for f s e) c) (own_value f s e c)
  unfolding value_in
  by b q = ap (λ (t : Bool). cond t (entry_value f s (entry_for f s e) c) (own_value f s e c)) q

  -- of entry k, ..
  pub of_entry : (k : ℕ) → s.accessor.has_sparse ≡ true → k ≡ entry_for f s e → k < s.accessor.sparse.count
      → value_in f s e c ≡ entry_value f s k c
  unfolding replaced
  of_entry k h q t = rw q (by true (ap (λ (b : Bool). b && ltb (entry_for f s e) s.accessor.sparse.count) h ∙ lt-ltb _ _ (rw q at t)))

  -- .. and of the view, without sparse or where no entry is equal to the element
  pub of_view : s.accessor.has_sparse ≡ false → value_in f s e c ≡ own_value f s e c
  unfolding replaced
  of_view h = by false (and_left _ _ h)

  pub of_other : (k : ℕ) → k ≡ entry_for f s e → s.accessor.sparse.count ≤ k → value_in f s e c ≡ own_value f s e c
  unfolding replaced
  of_other k q t = by false (and_right s.accessor.has_sparse _ (le-ltb _ _ (rw q at t)))

  -- the value in the view, with a bufferView and without
  pub of_some : s.accessor.has_buffer_view ≡ true
      → own_value f s e c ≡ number_at f s.accessor.component_type (component_at s e c)
  unfolding own_value
  of_some h =
      ap (λ (b : Bool). cond b (number_at f s.accessor.component_type (component_at s e c)) (pos 0)) h

  pub of_none : s.accessor.has_buffer_view ≡ false → own_value f s e c ≡ pos 0
  unfolding own_value
  of_none h =
      ap (λ (b : Bool). cond b (number_at f s.accessor.component_type (component_at s e c)) (pos 0)) h
