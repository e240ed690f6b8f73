-- What the loop over elements counts. Assumes nothing: these are definitions.
use Rattle.std.specs.Prelude.{ℕ, zero, suc, Bool, true, false, cond, List, ℤ, pos, negsuc}
use Rattle.tables.specs.declared.selection.Selection.{Selection}
use Rattle.access.specs.Readings.{component_in}

-- whether the number is 0
unfoldable pub is_zero : ℤ → Bool
is_zero (pos zero) = true
is_zero (pos (suc n)) = false
is_zero (negsuc n) = false

-- how many of the first n elements have another value than 0 as this component
unfoldable pub count_of : List ℕ → Selection → ℕ → ℕ → ℕ
count_of file s component zero = 0
count_of file s component (suc i) =
    cond (is_zero (component_in file s i component).value) (count_of file s component i) (suc (count_of file s component i))
