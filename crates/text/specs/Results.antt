-- What `check` answers, in the words of the definitions. Assumes nothing: these are definitions.
use Rattle.std.specs.Prelude.{cond, eqb, Result, Ok, Err, ⊤}
use Rattle.text.specs.declared.Fault.{Fault}

-- Ok where no rule is broken, which is number 0, and else the rule and its place
abbrev pub outcome_of : Fault → Result ⊤ Fault
outcome_of x = cond (eqb x.number 0) (Ok tt) (Err x)
