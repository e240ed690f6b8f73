-- How the code's answers stand for those of the definitions. Assumes nothing: these are definitions.
use Rattle.std.specs.Prelude.{cond, eqb, Result, Ok, Err}
use Rattle.tables.specs.declared.Tables.{Tables}
use Rattle.tables.specs.Records.{empty_tables}
use Rattle.glb.specs.declared.Fault.{Fault}
use Rattle.glb.specs.declared.Checked.{Checked}

-- the answer of `check`: the tables where no rule is broken, else the rule and its item
unfoldable pub outcome_of : Checked → Result Tables Fault
outcome_of c = cond (eqb c.verdict 0) (Ok c.tables) (Err (record { rule = c.verdict; item = c.item }))

-- an answer with the tables that a lent place holds then
abbrev pub holding : Tables → Result (Unit {0}) Fault → Result Tables Fault
holding t (Ok u) = Ok t
holding t (Err b) = Err b

-- the record that an answer stands for: on refusal the tables are empty
unfoldable pub checked_of : Result Tables Fault → Checked
checked_of (Ok t) = record { verdict = 0; item = 0; tables = t }
checked_of (Err b) = record { verdict = b.rule; item = b.item; tables = empty_tables }
