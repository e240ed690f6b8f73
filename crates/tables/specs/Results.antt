-- The answers of the checks, as the code gives them. Assumes nothing: these are definitions.
use Rattle.std.specs.Prelude.{ℕ, Bool, cond, ltb, leb, eqb, Result, Ok, Err}
use Rattle.tables.specs.declared.finding.Finding.{Finding}

-- a finding: `Ok` where no rule is broken
abbrev pub outcome_of : Finding → Result Unit Finding
outcome_of f = cond (eqb f.rule 0) (Ok tt) (Err f)

-- the smallest rule that is broken, of the rules below `none`; none is broken where it is not below
abbrev pub broken_below : ℕ → ℕ → Result Unit ℕ
broken_below none rule = cond (ltb rule none) (Err rule) (Ok tt)

-- one test of a rule
abbrev pub broken_if : Bool → ℕ → Result Unit ℕ
broken_if b rule = cond b (Err rule) (Ok tt)

-- what is found so far and one more item that breaks a rule: the smaller rule, and the first item of two
abbrev pub first_of : Result Unit Finding → Finding → Result Unit Finding
first_of (Ok _) next = Err next
first_of (Err f) next = Err (cond (leb f.rule next.rule) f next)
