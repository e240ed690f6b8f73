-- The library's search answers the smallest number of the definitions.
-- Assumes nothing.
use Rattle.std.proofs.Common.{◌≡◌, ℕ, Bool, true, false, List, [], ◌∷◌, length, get_or, refl, sym, arith, eqb, ltb, Some, None}
use Rattle.std.specs.List.{position, position_or_len}
use Rattle.laws.specs.Search.{least}
use Rattle.laws.proofs.Tests.{by_test}
use Rattle.graph.specs.Stream.{first_twice}
use Rattle.graph.specs.Results.{item_below}

-- the place of the first entry that passes is the smallest number whose entry does
place_least : (p : ℕ → Bool) (xs : List ℕ) → position_or_len p xs ≡ least (λ k. p (get_or xs k 0)) (length xs)
place_least p [] = refl
place_least p (x ∷ xs) =
    by_test (p x) (λ t. rw t refl) (λ f. rw (f, sym (place_least p xs)) (omega arith))

pub position_least : (p : ℕ → Bool) (xs : List ℕ)
    → position p xs ≡ item_below (length xs) (least (λ k. p (get_or xs k 0)) (length xs))
unfolding item_below
position_least p xs = rw (place_least p xs) refl

-- the smallest child met twice
pub twice_found : (parents : List ℕ)
    → position (λ x. eqb x 65535) parents ≡ item_below (length parents) (first_twice parents)
unfolding first_twice
twice_found parents = position_least (λ x. eqb x 65535) parents

-- an item that is there is the number, which is below the count
pub item_some : (count x i : ℕ) → Some i ≡ item_below count x → (x ≡ i) × (ltb x count ≡ true)
unfolding item_below
item_some count x i e =
    by_test (ltb x count)
    (λ t. let s : Some i ≡ Some x = rw t at e in (grind (arith, s), t))
    (λ f. let s : Some i ≡ None = rw f at e in absurd (cc))

-- no item: the number is not below the count
pub item_none : (count x : ℕ) → None ≡ item_below count x → ltb x count ≡ false
unfolding item_below
item_none count x e =
    by_test (ltb x count) (λ t. let s : None ≡ Some x = rw t at e in absurd (cc)) (λ f. f)
