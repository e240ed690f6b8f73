-- How often a number stands in a list, and what it says: a place for each, two places for twice.
-- Assumes nothing.
use Prim.Native.Nat.{ℕ, zero, suc, ◌+◌, ◌<◌, ◌≤◌}
use mathlib.Core.Path.{◌≡◌, refl, sym, ap, ◌∙◌}
use mathlib.Core.Bool.{Bool, true, true≢false}
use mathlib.Core.List.{List, [], ◌∷◌, ◌++◌}
use mathlib.Core.Logic.{◌⊎◌, inl, inr}
use native.Mathlib.Nat.{le_of_suc-le-suc, not-suc-le-zero, zero-add, suc-add}
use native.Mathlib.Omega.{arith}
use borrow.Author.Tests.{ltb-true, ltb-false, lt-ltb, eq-eqb, eqb-true}
use lib.Dec.{ltb, eqb}
use lib.ListN.{get_or, length}
use Rattle.laws.proofs.Tests.{by_test}
use Rattle.laws.proofs.Pigeonhole.{NoRepeat}
use Rattle.graph.specs.Graph.{times, any_in, repeats, joined}
use Rattle.graph.specs.Rules.{In, Again}
use Rattle.graph.specs.Rules.In.{at}
use Rattle.graph.proofs.Booleans.{or-true, or_cases}

-- of two lists, one after the other
pub times_append : (x : ℕ) (a b : List ℕ) → times x (a ++ b) ≡ times x a + times x b
unfolding times
times_append x [] b = sym (zero-add (times x b))
times_append x (y ∷ a) b =
    by_test (eqb y x) (λ t. rw (t, suc-add) (ap suc (times_append x a b))) (λ f. rw f (times_append x a b))

-- a number that stands in the list
pub times_in : (x : ℕ) (list : List ℕ) → In x list → 0 < times x list
unfolding times
times_in x [] (at j l e) = absurd (not-suc-le-zero l)
times_in x (y ∷ list) (at zero l e) = rw (eq-eqb y x e) (omega arith)
times_in x (y ∷ list) (at (suc j) l e) =
    by_test (eqb y x) (λ t. rw t (omega arith)) (λ f. rw f (times_in x list (at j (le_of_suc-le-suc l) e)))

-- a number that stands in a list stands in it with one entry more
pub in_more : {x : ℕ} {list : List ℕ} (y : ℕ) → In x list → In x (y ∷ list)
in_more y (at j l e) = at (suc j) (omega arith) e

-- .. and back
pub in_times : (x : ℕ) (list : List ℕ) → 0 < times x list → In x list
unfolding times
in_times x [] = λ h. absurd (not-suc-le-zero h)
in_times x (y ∷ list) =
    by_test (eqb y x) (λ t. rw t (λ h. at zero (omega arith) (eqb-true y x t)))
    (λ f. rw f (λ h. in_more y (in_times x list h)))

-- a number that stands twice
pub times_again : (x : ℕ) (list : List ℕ) → Again x list → 1 < times x list
unfolding times
times_again x [] (Again.at i j l h e d) = absurd (not-suc-le-zero h)
times_again x (y ∷ list) (Again.at zero zero l h e d) = absurd (omega arith)
times_again x (y ∷ list) (Again.at zero (suc j) l h e d) =
    rw (eq-eqb y x e) (omega (arith, times_in x list (at j (le_of_suc-le-suc h) d)))
times_again x (y ∷ list) (Again.at (suc i) zero l h e d) = absurd (omega arith)
times_again x (y ∷ list) (Again.at (suc i) (suc j) l h e d) =
    by_test (eqb y x)
    (λ t. rw t (omega (arith, times_again x list (Again.at i j (le_of_suc-le-suc l) (le_of_suc-le-suc h) e d))))
    (λ f. rw f (times_again x list (Again.at i j (le_of_suc-le-suc l) (le_of_suc-le-suc h) e d)))

-- .. and back
pub again_times : (x : ℕ) (list : List ℕ) → 1 < times x list → Again x list
unfolding times
again_times x [] = λ h. absurd (not-suc-le-zero h)
again_times x (y ∷ list) =
    by_test (eqb y x) (λ t. rw t (λ h. first (eqb-true y x t) (in_times x list (omega arith))))
    (λ f. rw f (λ h. further (again_times x list h)))
  where
    first : y ≡ x → In x list → Again x (y ∷ list)
    first e (at j l d) = Again.at zero (suc j) (omega arith) (omega arith) e d

    further : Again x list → Again x (y ∷ list)
    further (Again.at i j l h e d) = Again.at (suc i) (suc j) (omega arith) (omega arith) e d

-- a list in which no number stands twice
pub once_no_repeat : (list : List ℕ) → ((x : ℕ) → times x list ≤ 1) → NoRepeat list
once_no_repeat list h i j l k e =
    absurd (omega (arith, h (get_or list j 0), times_again (get_or list j 0) list (Again.at i j l k e refl)))

-- in one of the lists, and in all of them together
pub times_joined : (x p : ℕ) (lists : List (List ℕ)) → times x (get_or lists p []) ≤ times x (joined lists)
unfolding times joined
times_joined x p [] = omega arith
times_joined x zero (list ∷ lists) = rw times_append (omega arith)
times_joined x (suc p) (list ∷ lists) = rw times_append (omega (arith, times_joined x p lists))

-- in two of the lists
pub times_two : (x p q : ℕ) (lists : List (List ℕ)) → p < q
    → times x (get_or lists p []) + times x (get_or lists q []) ≤ times x (joined lists)
unfolding times joined
times_two x p q [] l = omega arith
times_two x p zero (list ∷ lists) l = absurd (omega arith)
times_two x zero (suc q) (list ∷ lists) l = rw times_append (omega (arith, times_joined x q lists))
times_two x (suc p) (suc q) (list ∷ lists) l =
    rw times_append (omega (arith, times_two x p q lists (le_of_suc-le-suc l)))

-- a number in all lists together stands in one of them
pub record Where (x : ℕ) (lists : List (List ℕ)) : Type 0 where
  pub list : ℕ
  pub below : list < length lists
  pub here : 0 < times x (get_or lists list [])

-- so it is wherever a number stands in all lists together
pub joined_where : (x : ℕ) (lists : List (List ℕ)) → 0 < times x (joined lists) → Where x lists
unfolding times joined
joined_where x [] h = absurd (not-suc-le-zero h)
joined_where x (list ∷ lists) h =
    by_test (ltb 0 (times x list))
    (λ t. record { list = 0; below = omega arith; here = ltb-true 0 (times x list) t })
    (λ f. further (joined_where x lists (omega (arith, rw times_append at h, ltb-false 0 (times x list) f))))
  where
    further : Where x lists → Where x (list ∷ lists)
    further w = record { list = suc w.list; below = omega (arith, w.below); here = w.here }

-- an entry that passes the test
pub record Passes (test : ℕ → Bool) (list : List ℕ) : Type 0 where
  pub entry : ℕ
  pub there : In entry list
  pub passes : test entry ≡ true

-- an entry that passes makes the test hold of the list, ..
pub any_in_lem : (test : ℕ → Bool) (x : ℕ) (list : List ℕ) → In x list → test x ≡ true → any_in test list ≡ true
unfolding any_in
any_in_lem test x [] (at j l e) h = absurd (not-suc-le-zero l)
any_in_lem test x (y ∷ list) (at zero l e) h = or-true (test y) (any_in test list) (inl (ap test e ∙ h))
any_in_lem test x (y ∷ list) (at (suc j) l e) h =
    or-true (test y) (any_in test list) (inr (any_in_lem test x list (at j (le_of_suc-le-suc l) e) h))

-- .. and back
pub in_any : (test : ℕ → Bool) (list : List ℕ) → any_in test list ≡ true → Passes test list
unfolding any_in
in_any test [] h = absurd (true≢false (sym h))
in_any test (y ∷ list) h = go (or_cases (test y) (any_in test list) h) (in_any test list)
  where
    further : Passes test list → Passes test (y ∷ list)
    further p = record { entry = p.entry; there = in_more y p.there; passes = p.passes }

    go : (test y ≡ true) ⊎ (any_in test list ≡ true) → (any_in test list ≡ true → Passes test list) → Passes test (y ∷ list)
    go (inl t) ih = record { entry = y; there = at zero (omega arith) refl; passes = t }
    go (inr t) ih = further (ih t)

-- a number that stands twice, of a list that repeats, ..
pub repeats_again : (x : ℕ) (list : List ℕ) → Again x list → repeats list ≡ true
unfolding repeats times
repeats_again x [] (Again.at i j l h e d) = absurd (not-suc-le-zero h)
repeats_again x (y ∷ list) (Again.at zero zero l h e d) = absurd (omega arith)
repeats_again x (y ∷ list) (Again.at zero (suc j) l h e d) =
    let here = times_in y list (at j (le_of_suc-le-suc h) (d ∙ sym e)) in
    or-true (ltb 0 (times y list)) (repeats list) (inl (lt-ltb 0 (times y list) here))
repeats_again x (y ∷ list) (Again.at (suc i) zero l h e d) = absurd (omega arith)
repeats_again x (y ∷ list) (Again.at (suc i) (suc j) l h e d) =
    let there = repeats_again x list (Again.at i j (le_of_suc-le-suc l) (le_of_suc-le-suc h) e d) in
    or-true (ltb 0 (times y list)) (repeats list) (inr there)

-- .. and back
pub again_repeats : (list : List ℕ) → repeats list ≡ true → (x : ℕ) × Again x list
unfolding repeats
again_repeats [] h = absurd (true≢false (sym h))
again_repeats (y ∷ list) h = go (or_cases (ltb 0 (times y list)) (repeats list) h) (again_repeats list)
  where
    first : In y list → Again y (y ∷ list)
    first (at j l d) = Again.at zero (suc j) (omega arith) (omega arith) refl d

    further : (x : ℕ) × Again x list → (x : ℕ) × Again x (y ∷ list)
    further (x, Again.at i j l h e d) = (x, Again.at (suc i) (suc j) (omega arith) (omega arith) e d)

    go : (ltb 0 (times y list) ≡ true) ⊎ (repeats list ≡ true) → (repeats list ≡ true → (x : ℕ) × Again x list)
        → (x : ℕ) × Again x (y ∷ list)
    go (inl t) ih = (y, first (in_times y list (ltb-true 0 (times y list) t)))
    go (inr t) ih = further (ih t)
