-- How the code's answers stand for those of the definitions. Assumes nothing: these are definitions.
use Rattle.std.specs.Prelude.{ℕ, ◌≡◌, cond, ltb, eqb, Option, Some, None, Result, Ok, Err}
use Rattle.graph.specs.declared.verdict.Fault.{Fault}

-- an item below the count; None where the number is not, which stands for no item
unfoldable pub item_below : ℕ → ℕ → Option ℕ
item_below count x = cond (ltb x count) (Some x) None

-- Ok where no rule is broken, else the fault
unfoldable pub outcome_of : Fault → Result (Unit {0}) Fault
outcome_of fault = cond (eqb fault.number 0) (Ok tt) (Err fault)

-- the fault that an answer stands for: 0 and 0 for Ok
unfoldable pub fault_of : Result (Unit {0}) Fault → Fault
fault_of (Ok _) = record { number = 0; item = 0 }
fault_of (Err fault) = fault

-- a fault as the definitions give it: where no rule is broken the item is 0
abbrev pub Whole : Fault → Type 0
Whole fault = fault.number ≡ 0 → fault.item ≡ 0
