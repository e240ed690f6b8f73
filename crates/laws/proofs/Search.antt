-- What `least`, `any_below` and `first_true` mean, each exactly.
-- Assumes nothing.
use mathlib.Core.Path.{◌≡◌, refl, sym, ap, ◌∙◌}
use mathlib.Core.Bool.{Bool, true, false, cond, not, ◌&&◌, true≢false}
use mathlib.Core.List.{List, [], ◌∷◌, ◌++◌}
use Prim.Native.Nat.{ℕ, zero, suc, ◌+◌, ◌<◌, ◌≤◌, zero-le, suc-le-suc}
use native.Mathlib.Nat.{le_of_suc-le-suc, not-suc-le-zero, zero-add, suc-add}
use native.Mathlib.Omega.{arith}
use borrow.Author.Count.{below_more}
use borrow.Author.Tests.{ltb-true, ltb-false, le-ltb, eqb-true, eqb-false}
use lib.Dec.{eqb}
use lib.ListN.{length, get_or}
use Rattle.laws.specs.Search.{least, any_below, first_true}
use Rattle.laws.proofs.Tests.{by_test}

-- r is at most n, p holds at r if that is below n, and p fails below r
pub record Least (p : ℕ → Bool) (n r : ℕ) : Type 0 where
  pub le : r ≤ n
  pub holds : r < n → p r ≡ true
  pub fails : (k : ℕ) → k < r → p k ≡ false

-- that is so of `least p n`, ..
pub least_says : (p : ℕ → Bool) (n : ℕ) → Least p n (least p n)
least_says p zero = record { le = zero-le; holds = λ l. absurd (not-suc-le-zero l); fails = λ k l. absurd (not-suc-le-zero l) }
least_says p (suc n) = go (p zero) refl (least_says (λ i. p (suc i)) n)
  where
    below : (r : ℕ) → p zero ≡ false → ((k : ℕ) → k < r → p (suc k) ≡ false) → (k : ℕ) → k < suc r → p k ≡ false
    below r e f zero l = e
    below r e f (suc k) l = f k (le_of_suc-le-suc l)

    go : (b : Bool) → p zero ≡ b → Least (λ i. p (suc i)) n (least (λ i. p (suc i)) n)
        → Least p (suc n) (cond b zero (suc (least (λ i. p (suc i)) n)))
    go true e s = record { le = zero-le; holds = λ l. e; fails = λ k l. absurd (not-suc-le-zero l) }
    go false e s = record { le = suc-le-suc s.le; holds = λ l. s.holds (le_of_suc-le-suc l); fails = below _ e s.fails }

-- .. and of no other number
pub least_is : (p : ℕ → Bool) (n r : ℕ) → Least p n r → least p n ≡ r
least_is p zero zero s = refl
least_is p zero (suc r) s = absurd (not-suc-le-zero s.le)
least_is p (suc n) zero s = rw (s.holds (suc-le-suc zero-le))
least_is p (suc n) (suc r) s =
    rw (s.fails zero (suc-le-suc zero-le))
    (ap suc (least_is (λ i. p (suc i)) n r
    (record { le = le_of_suc-le-suc s.le; holds = λ l. s.holds (suc-le-suc l); fails = λ k l. s.fails (suc k) (suc-le-suc l) })))

-- where none of the numbers passes, `least` is n
pub least_none : (p : ℕ → Bool) (n : ℕ) → ((k : ℕ) → k < n → p k ≡ false) → least p n ≡ n
least_none p n f = least_is p n n (record { le = omega arith; holds = λ l. absurd (omega arith); fails = f })

-- one number more: a search that found nothing among n looks at n
pub least_more : (p : ℕ → Bool) (n : ℕ) → least p (n + 1) ≡ cond (eqb (least p n) n && not (p n)) (n + 1) (least p n)
least_more p n =
    let s = least_says p n in
    by_test (eqb (least p n) n)
    (λ e. let at = eqb-true (least p n) n e in
    let none = rw at at s.fails in
    by_test (p n)
    (λ t. rw (e, t) (rw at (least_is p (n + 1) n (record { le = omega arith; holds = λ l. t; fails = none }))))
    (λ t. rw (e, t) (least_none p (n + 1) (below_more _ n none t))))
    (λ e. rw e (least_is p (n + 1) (least p n)
    (record { le = omega (arith, s.le); holds = λ l. s.holds (omega (arith, s.le, eqb-false (least p n) n e)); fails = s.fails })))

-- `least` looks at the numbers below n alone
pub least_ext : (p q : ℕ → Bool) (n : ℕ) → ((k : ℕ) → k < n → p k ≡ q k) → least p n ≡ least q n
least_ext p q n h =
    let s = least_says q n in
    least_is p n (least q n)
    (record { le = s.le; holds = λ l. h (least q n) l ∙ s.holds l; fails = λ k l. h k (omega (arith, s.le)) ∙ s.fails k l })

-- `any_below`, both ways
pub any_yes : (p : ℕ → Bool) (n j : ℕ) → j < n → p j ≡ true → any_below p n ≡ true
any_yes p n j l e =
    by_test (any_below p n) (λ t. t)
    (λ f. absurd (true≢false (sym e ∙ (least_says p n).fails j (omega (arith, ltb-false (least p n) n f)))))

-- where none passes each fails
pub any_no : (p : ℕ → Bool) (n : ℕ) → any_below p n ≡ false → (j : ℕ) → j < n → p j ≡ false
any_no p n e j l = (least_says p n).fails j (omega (arith, ltb-false (least p n) n e))

-- where each fails none passes
pub any_none : (p : ℕ → Bool) (n : ℕ) → ((j : ℕ) → j < n → p j ≡ false) → any_below p n ≡ false
any_none p n f = le-ltb (least p n) n (omega (arith, least_none p n f))

-- where one passes the least does
pub any_at : (p : ℕ → Bool) (n : ℕ) → any_below p n ≡ true → (least p n < n) × (p (least p n) ≡ true)
any_at p n e = let l = ltb-true (least p n) n e in (l, (least_says p n).holds l)

-- what `first_true` is
pub first_says : (tests : List Bool) → Least (λ k. get_or tests k false) (length tests) (first_true tests)
first_says tests = least_says (λ k. get_or tests k false) (length tests)

-- the tests of a second list come after those of the first
pub first_early : (xs ys : List Bool) → first_true xs < length xs → first_true (xs ++ ys) ≡ first_true xs
first_early [] ys l = absurd (not-suc-le-zero l)
first_early (true ∷ xs) ys l = refl
first_early (false ∷ xs) ys l = ap suc (first_early xs ys (le_of_suc-le-suc l))

-- where none of the first list holds
pub first_late : (xs ys : List Bool) → length xs ≤ first_true xs → first_true (xs ++ ys) ≡ length xs + first_true ys
first_late [] ys l = sym (zero-add (first_true ys))
first_late (true ∷ xs) ys l = absurd (not-suc-le-zero l)
first_late (false ∷ xs) ys l = rw suc-add (ap suc (first_late xs ys (le_of_suc-le-suc l)))
