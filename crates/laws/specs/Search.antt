-- Searches: the least number that passes a test, and the verdict over a family of rules and items.
-- Assumes nothing: these are definitions.
use Rattle.std.specs.Prelude.{ℕ, zero, suc, Bool, false, cond, List, length, get_or, ltb}

-- the least i below n with p i, and n where there is none
abbrev pub least : (ℕ → Bool) → ℕ → ℕ
least p zero = zero
least p (suc n) = cond (p zero) zero (suc (least (λ i. p (suc i)) n))

-- whether one of the numbers below n passes
abbrev pub any_below : (ℕ → Bool) → ℕ → Bool
any_below p n = ltb (least p n) n

-- the number of the first test that holds, and how many there are where none does
abbrev pub first_true : List Bool → ℕ
first_true tests = least (λ k. get_or tests k false) (length tests)

-- `broken k i`: item i breaks rule k. The smallest of m rules that one of n items breaks, m if none
unfoldable pub first_rule : (ℕ → ℕ → Bool) → ℕ → ℕ → ℕ
first_rule broken m n = least (λ k. any_below (broken k) n) m

-- the smallest item that breaks that rule, 0 if there is no such rule
unfoldable pub first_item : (ℕ → ℕ → Bool) → ℕ → ℕ → ℕ
first_item broken m n = cond (ltb (first_rule broken m n) m) (least (broken (first_rule broken m n)) n) 0
