-- Laws of `||`. Assumes nothing.
use mathlib.Core.Path.{◌≡◌, refl, sym}
use mathlib.Core.Bool.{Bool, true, false, ◌||◌, true≢false}
use mathlib.Core.Logic.{◌⊎◌, inl, inr}

-- either holds
pub or-true : (a b : Bool) → (a ≡ true) ⊎ (b ≡ true) → a || b ≡ true
or-true true b h = refl
or-true false b (inl h) = absurd (true≢false (sym h))
or-true false b (inr h) = h

-- one of the two did
pub or_cases : (a b : Bool) → a || b ≡ true → (a ≡ true) ⊎ (b ≡ true)
or_cases true b h = inl refl
or_cases false b h = inr h

-- the order of the parts does not matter
pub or_swap : (a b c : Bool) → a || (b || c) ≡ b || (a || c)
or_swap true true c = refl
or_swap true false c = refl
or_swap false b c = refl

-- of four parts too
pub or_sort : (a b c d : Bool) → a || ((b || c) || d) ≡ (a || c) || (b || d)
or_sort true b c d = refl
or_sort false true true d = refl
or_sort false true false d = refl
or_sort false false c d = refl
