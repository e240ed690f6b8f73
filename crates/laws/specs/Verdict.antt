-- The smallest rule that is broken, and its smallest item: what a verdict means, for any family of broken rules.
-- Assumes nothing: these are definitions.
use Rattle.std.specs.Prelude.{ℕ, ◌<◌}

-- `Broken n i`: rule n is broken with item i. Rule n is, with item i; no smaller rule is, and rule n is not with a smaller item
pub record Smallest (Broken : ℕ → ℕ → Type 0) (n i : ℕ) : Type 0 where
  pub broken : Broken n i
  pub rules : (m j : ℕ) → m < n → Broken m j → ⊥
  pub items : (j : ℕ) → j < i → Broken n j → ⊥
