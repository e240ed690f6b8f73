-- What a pass over all entries of all lists finds: the smallest list that a test finds fault with.
-- Assumes nothing.
use Prim.Native.Nat.{ℕ, suc, ◌+◌, ◌<◌, ◌≤◌, min}
use mathlib.Core.Path.{◌≡◌, refl, sym, ap, ◌∙◌}
use mathlib.Core.Bool.{Bool, true, false, ◌||◌}
use mathlib.Core.List.{List, [], ◌∷◌, ◌++◌}
use native.Mathlib.Nat.{add-zero}
use native.Mathlib.Numerals.{add-one}
use native.Mathlib.Omega.{arith}
use borrow.Author.Tests.{ltb-true, ltb-false}
use lib.Dec.{ltb}
use lib.ListN.{get_or, length, take}
use lib.Seq.{take-suc}
use Rattle.laws.specs.Search.{least}
use Rattle.laws.proofs.Tests.{by_test}
use Rattle.graph.specs.Graph.{any_in}
use Rattle.graph.specs.Stream.{feed, feed_all, earlier}

-- a pass over a list, and then over one entry more
pub feed_more : {S : Type 0} (step : S → ℕ → ℕ → S) (s : S) (i : ℕ) (list : List ℕ) (x : ℕ)
    → feed step s i (list ++ (x ∷ [])) ≡ step (feed step s i list) i x
unfolding feed
feed_more step s i [] x = refl
feed_more step s i (y ∷ list) x = feed_more step (step s i y) i list x

-- a pass over one entry more of a list
pub feed_next : {S : Type 0} (step : S → ℕ → ℕ → S) (s : S) (i : ℕ) (list : List ℕ) (j : ℕ) → j < length list
    → feed step s i (take (j + 1) list) ≡ step (feed step s i (take j list)) i (get_or list j 0)
feed_next step s i list j l = rw (add-one j, take-suc list j 0 l) (feed_more step s i (take j list) (get_or list j 0))

-- a pass over lists, and then over one list more
pub feed_all-more : {S : Type 0} (step : S → ℕ → ℕ → S) (s : S) (i : ℕ) (lists : List (List ℕ)) (list : List ℕ)
    → feed_all step s i (lists ++ (list ∷ [])) ≡ feed step (feed_all step s i lists) (i + length lists) list
unfolding feed_all
feed_all-more step s i [] list = rw (add-zero i) refl
feed_all-more step s i (l ∷ lists) list =
    let e : suc i + length lists ≡ i + suc (length lists) = omega arith in
    feed_all-more step (feed step s i l) (suc i) lists list ∙ rw e

-- `earlier` is the smaller of the two, or what was found
pub earlier_true : (i s : ℕ) → earlier true i s ≡ min i s
unfolding earlier
earlier_true i s =
    by_test (ltb i s) (λ t. rw t (omega (arith, ltb-true i s t))) (λ f. rw f (omega (arith, ltb-false i s f)))

-- where the test fails nothing changes
pub earlier_false : (i s : ℕ) → earlier false i s ≡ s
unfolding earlier
earlier_false i s = refl

-- it never grows
earlier_le : (b : Bool) (i s : ℕ) → earlier b i s ≤ s
earlier_le true i s = rw (earlier_true i s) (omega arith)
earlier_le false i s = rw (earlier_false i s) (omega arith)

-- two tests one after the other
pub earlier_or : (a b : Bool) (i s : ℕ) → earlier b i (earlier a i s) ≡ earlier (a || b) i s
earlier_or true true i s = simp earlier_true (omega arith)
earlier_or true false i s = simp (earlier_true, earlier_false)
earlier_or false b i s = simp earlier_false

-- what every step keeps, a pass over list i keeps
pub feed_keep : {S : Type 0} (step : S → ℕ → ℕ → S) (Ok : S → Type 0) (i : ℕ) → ((s : S) (x : ℕ) → Ok s → Ok (step s i x))
    → (s : S) (list : List ℕ) → Ok s → Ok (feed step s i list)
unfolding feed
feed_keep step Ok i keep s [] ok = ok
feed_keep step Ok i keep s (x ∷ list) ok = feed_keep step Ok i keep (step s i x) list (keep s x ok)

-- A step that looks at its entry alone. Ok is what the steps keep.
module _ {S : Type 0} (step : S → ℕ → ℕ → S) (get : S → ℕ) (test : ℕ → Bool) (Ok : S → Type 0)
    (one : (s : S) (i x : ℕ) → Ok s → get (step s i x) ≡ earlier (test x) i (get s))
    (keep : (s : S) (i x : ℕ) → Ok s → Ok (step s i x)) where
  -- a pass over one list: what its test of the whole list finds
  pub feed_test : (s : S) (i : ℕ) (list : List ℕ) → Ok s → get (feed step s i list) ≡ earlier (any_in test list) i (get s)
  unfolding feed any_in
  feed_test s i [] ok = sym (earlier_false i (get s))
  feed_test s i (x ∷ list) ok =
      feed_test (step s i x) i list (keep s i x ok)
      ∙ ap (earlier (any_in test list) i) (one s i x ok)
      ∙ earlier_or (test x) (any_in test list) i (get s)

-- A pass over lists of which each satisfies Q, with numbers below b. Ok i is what holds before list i.
module _ {S : Type 0} (step : S → ℕ → ℕ → S) (get : S → ℕ) (test : List ℕ → Bool)
    (Ok : ℕ → S → Type 0) (Q : List ℕ → Type 0) (b : ℕ)
    (one : (s : S) (i : ℕ) (list : List ℕ) → i < b → Q list → Ok i s
    → get (feed step s i list) ≡ earlier (test list) i (get s))
    (keep : (s : S) (i : ℕ) (list : List ℕ) → Q list → Ok i s → Ok (suc i) (feed step s i list)) where
  -- a pass over all lists: the smallest list that the test finds, or what was found before
  pub feed_all_test : (s : S) (i : ℕ) (lists : List (List ℕ)) → get s ≤ i + length lists → i + length lists ≤ b
      → ((k : ℕ) → k < length lists → Q (get_or lists k [])) → Ok i s
      → get (feed_all step s i lists) ≡ min (get s) (i + least (λ k. test (get_or lists k [])) (length lists))
  unfolding feed_all
  feed_all_test s i [] l h q ok = omega arith
  feed_all_test s i (list ∷ lists) l h q ok =
      let here = one s i list (omega arith) (q 0 (omega arith)) ok in
      let low = earlier_le (test list) i (get s) in
      let rest = feed_all_test (feed step s i list) (suc i) lists (omega arith) (omega arith)
      (λ k l. q (suc k) (omega arith)) (keep s i list (q 0 (omega arith)) ok) in
      by_test (test list)
      (λ t. rw t (rest ∙ rw (here, t, earlier_true i (get s)) (omega arith)))
      (λ f. rw f (rest ∙ rw (here, f, earlier_false i (get s)) (omega arith)))
