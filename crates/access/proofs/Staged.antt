-- The reading in the stages in which the code makes it.
-- Assumes nothing.
use Prim.Native.Nat.{ℕ, ◌<◌, ◌≤◌}
use mathlib.Core.Path.{◌≡◌, sym, ap, ◌∙◌}
use mathlib.Core.Bool.{true, false, cond}
use mathlib.Core.List.{List}
use native.Mathlib.Omega.{arith}
use borrow.Author.Tests.{leb-false, lt-leb}
use lib.Dec.{leb}
use lib.IntN.{ℤ}
use lib.ListN.{length}
use Rattle.std.proofs.lemmas.Bool.Decides.{nat_tests}
use Rattle.laws.proofs.Tests.{by_test}
use Rattle.tables.specs.declared.selection.Selection.{Selection}
use Rattle.tables.specs.Elements.{component_count}
use Rattle.tables.specs.Fitness.{accessor_unfit}
use Rattle.access.specs.declared.Reading.{Reading}
use Rattle.access.specs.Readings.{entry_for, own_value, entry_value, value_in, refused, answered, component_in}
use Rattle.access.specs.Stages.{own_reading}
use Rattle.access.proofs.Answers.{of_entry, of_view, of_other}

module _ (f : List ℕ) (s : Selection) (e c : ℕ) where
  -- refused with 63; by `grind`, so that refusal_61_before_63 is refused by what it says
  pub unfit_in : accessor_unfit (length f) s ≡ true → component_in f s e c ≡ refused 63
  unfolding component_in
  unfit_in u = rw u (grind (arith, nat_tests))

  -- 61 and 62, and then this value
  abbrev after : ℤ → Reading
  after v =
      cond (leb s.accessor.count e) (refused 61)
      (cond (leb (component_count s.accessor.element_type) c) (refused 62)
      (answered v))

  -- where 61 and 62 are not given, element and component are below their counts
  pub own_below : (own_reading f s e c).number ≡ 0
      → (e < s.accessor.count) × (c < component_count s.accessor.element_type)
  unfolding own_reading
  own_below n =
      by_test (leb s.accessor.count e) (λ p. absurd (omega (arith, rw p at n)))
      (λ p. by_test (leb (component_count s.accessor.element_type) c) (λ q. absurd (omega (arith, rw (p, q) at n)))
      (λ q. (leb-false _ _ p, leb-false _ _ q)))

  module _ (fit : accessor_unfit (length f) s ≡ false) where
    fit_in : component_in f s e c ≡ after (value_in f s e c)
    unfolding component_in
    fit_in = rw fit

    -- where the value is that in the view, the reading is of the accessor's own view
    same : value_in f s e c ≡ own_value f s e c → own_reading f s e c ≡ component_in f s e c
    unfolding own_reading
    same q = sym (fit_in ∙ ap after q)

    -- without sparse, ..
    pub own_without : s.accessor.has_sparse ≡ false → own_reading f s e c ≡ component_in f s e c
    own_without h = same (of_view f s e c h)

    -- .. and with it where no entry is equal to the element, ..
    pub own_other : (k : ℕ) → k ≡ entry_for f s e → s.accessor.sparse.count ≤ k → own_reading f s e c ≡ component_in f s e c
    own_other k q t = same (of_other f s e c k q t)

    -- .. or the reading is refused
    pub own_refused : ((own_reading f s e c).number ≡ 0 → ⊥) → own_reading f s e c ≡ component_in f s e c
    unfolding own_reading
    own_refused n =
        by_test (leb s.accessor.count e)
        (λ p. let a : own_reading f s e c ≡ refused 61 = rw p in
        let b : after (value_in f s e c) ≡ refused 61 = rw p in
        a ∙ sym (fit_in ∙ b))
        (λ p. by_test (leb (component_count s.accessor.element_type) c)
        (λ q. let a : own_reading f s e c ≡ refused 62 = rw (p, q) in
        let b : after (value_in f s e c) ≡ refused 62 = rw (p, q) in
        a ∙ sym (fit_in ∙ b))
        (λ q. absurd (n (rw (p, q)))))

    -- an entry equal to the element gives its value
    pub entry_in : (k : ℕ) → s.accessor.has_sparse ≡ true → k ≡ entry_for f s e → k < s.accessor.sparse.count
        → (e < s.accessor.count) × (c < component_count s.accessor.element_type)
        → answered (entry_value f s k c) ≡ component_in f s e c
    entry_in k h q t b =
        sym (fit_in ∙ ap after (of_entry f s e c k h q t) ∙ rw (lt-leb _ _ b.0, lt-leb _ _ b.1))
