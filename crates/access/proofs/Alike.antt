-- A reading looks at certain bytes and at no others; these lie in the views that the accessor names.
-- Assumes nothing.
use Prim.Native.Nat.{ℕ, ◌+◌, ◌*◌, ◌<◌}
use mathlib.Core.Path.{◌≡◌, refl, sym, ap, ◌∙◌}
use mathlib.Core.Bool.{Bool, true, false, cond, ◌&&◌, true≢false}
use mathlib.Core.List.{List}
use native.Mathlib.Omega.{arith}
use borrow.Author.Tests.{ltb-true, leb-false}
use lib.Dec.{ltb, leb, eqb}
use lib.ListN.{get_or, length}
use Rattle.laws.proofs.Bytes.{little_at-agree}
use Rattle.laws.proofs.Search.{least_ext}
use Rattle.laws.proofs.Tests.{and-true}
use Rattle.tables.specs.declared.selection.Selection.{Selection}
use Rattle.tables.specs.Elements.{component_size, component_count}
use Rattle.tables.specs.Accessors.{layout_of}
use Rattle.tables.specs.Fitness.{extent_unfit, accessor_unfit}
use Rattle.tables.specs.Places.{layout_in, component_at, index_at, value_at}
use Rattle.tables.proofs.Fit.{good}
use Rattle.tables.proofs.Inside.{component_in_view, index_in_view, value_in_view}
use Rattle.access.specs.Numbers.{decode}
use Rattle.access.specs.Readings.{number_at, sparse_find, entry_for, replaced, own_value, entry_value, value_in}
use Rattle.access.specs.Readings.{answered, component_in}
use Rattle.access.specs.Meaning.{Among, LooksAt, Named, Alike}
use Rattle.access.proofs.Fits.{index_at_lem}

-- a choice, where the tests are equal and so is what each case gives
cond_like : {A : Type 0} (b b' : Bool) {x x' y y' : A} → b ≡ b' → (b ≡ true → x ≡ x') → (b ≡ false → y ≡ y')
    → cond b x y ≡ cond b' x' y'
cond_like true true q f g = f refl
cond_like false false q f g = g refl
cond_like true false q f g = absurd (true≢false q)
cond_like false true q f g = absurd (true≢false (sym q))

and_like : (a b c : Bool) → (a ≡ true → b ≡ c) → (a && b) ≡ (a && c)
and_like true b c h = h refl
and_like false b c h = refl

-- a number of two files that agree on its bytes
number_like : (f g : List ℕ) (t p : ℕ) → ((i : ℕ) → Among p (component_size t) i → get_or f i 0 ≡ get_or g i 0)
    → number_at f t p ≡ number_at g t p
unfolding number_at
number_like f g t p h = ap (decode t) (little_at-agree f g p (component_size t) (λ i a b. h i (a, b)))

module _ (f g : List ℕ) (s : Selection) (e c : ℕ) (h : (i : ℕ) → LooksAt f s e c i → get_or f i 0 ≡ get_or g i 0) where
  entry_like : s.accessor.has_sparse ≡ true → entry_for f s e ≡ entry_for g s e
  unfolding entry_for sparse_find
  entry_like t =
      least_ext _ _ s.accessor.sparse.count
      (λ k l. ap (λ (n : ℕ). eqb n e)
      (little_at-agree f g (index_at s 0 + (layout_in s).index * k) (layout_in s).index
      (λ i a b. h i (LooksAt.index t k l (rw (← index_at_lem s k) (a, b))))))

  replaced_like : replaced f s e ≡ replaced g s e
  unfolding replaced
  replaced_like =
      and_like s.accessor.has_sparse _ _ (λ t. ap (λ (n : ℕ). ltb n s.accessor.sparse.count) (entry_like t))

  has_sparse : replaced f s e ≡ true → s.accessor.has_sparse ≡ true
  unfolding replaced
  has_sparse r = (and-true s.accessor.has_sparse _ r).0

  -- the bytes looked at decide the value
  pub value_like : value_in f s e c ≡ value_in g s e c
  unfolding value_in entry_value own_value
  value_like =
      cond_like (replaced f s e) _ replaced_like
      (λ r. number_like f g s.accessor.component_type (value_at s (entry_for f s e) c) (λ i a. h i (LooksAt.value r a))
      ∙ ap (λ (k : ℕ). number_at g s.accessor.component_type (value_at s k c)) (entry_like (has_sparse r)))
      (λ r. cond_like s.accessor.has_buffer_view _ refl
      (λ v. number_like f g s.accessor.component_type (component_at s e c) (λ i a. h i (LooksAt.own r v a)))
      (λ v. refl))

module _ (f : List ℕ) (s : Selection) (e c : ℕ) (fit : accessor_unfit (length f) s ≡ false) (he : e < s.accessor.count)
    (hc : c < component_count s.accessor.element_type) where
  replaced_has : replaced f s e ≡ true → (s.accessor.has_sparse ≡ true) × (entry_for f s e < s.accessor.sparse.count)
  unfolding replaced
  replaced_has r =
      let p = and-true s.accessor.has_sparse (ltb (entry_for f s e) s.accessor.sparse.count) r in
      (p.0, ltb-true _ _ p.1)

  -- the bytes looked at lie in the views named, ..
  pub looks_named : (i : ℕ) → LooksAt f s e c i → Named s i
  unfolding layout_of
  looks_named i (LooksAt.index t k l a) =
      let v = index_in_view (length f) s (good (length f) s fit) t k l in
      Named.indices t (omega (arith, v, a), omega (arith, v, a))
  looks_named i (LooksAt.value r a) =
      let p = replaced_has r in
      let v = value_in_view (length f) s (good (length f) s fit) p.0 (entry_for f s e) c p.1 hc in
      Named.values p.0 (omega (arith, v, a), omega (arith, v, a))
  looks_named i (LooksAt.own r t a) =
      let v = component_in_view (length f) s (good (length f) s fit) t e c he hc in
      Named.own t (omega (arith, v, a), omega (arith, v, a))

-- .. and these in the file
pub named_inside : (bytes : ℕ) (s : Selection) → accessor_unfit bytes s ≡ false → (i : ℕ) → Named s i → i < bytes
named_inside bytes s fit i (Named.own t a) =
    let g = good bytes s fit in omega (arith, a, (g.own t).view.within, g.extent.buffer)
named_inside bytes s fit i (Named.indices t a) =
    let g = good bytes s fit in omega (arith, a, (g.sparse t).indices.within, g.extent.buffer)
named_inside bytes s fit i (Named.values t a) =
    let g = good bytes s fit in omega (arith, a, (g.sparse t).values.within, g.extent.buffer)

-- two files that are alike are both refused by 63, or neither is
unfit_like : (f g : List ℕ) (s : Selection) → Alike f g s → accessor_unfit (length f) s ≡ accessor_unfit (length g) s
unfolding accessor_unfit extent_unfit
unfit_like f g s a = rw a.fit

-- and they give the same reading
pub reading_like : (f g : List ℕ) (s : Selection) (e c : ℕ) → Alike f g s → component_in f s e c ≡ component_in g s e c
unfolding component_in
reading_like f g s e c a =
    cond_like (accessor_unfit (length f) s) _ (unfit_like f g s a) (λ t. refl)
    (λ fit. cond_like (leb s.accessor.count e) _ refl (λ t. refl)
    (λ he. cond_like (leb (component_count s.accessor.element_type) c) _ refl (λ t. refl)
    (λ hc. ap answered
    (value_like f g s e c
    (λ i l. a.agree i (looks_named f s e c fit (leb-false _ _ he) (leb-false _ _ hc) i l))))))
