-- What the bench program writes for its standard input (document 01, "Tables, readings, walk").
-- Assumes nothing: these are definitions.
use Rattle.std.specs.Prelude.{ℕ, ◌≤◌, cond, List, ltb, length, Result, Ok, Err}
use Rattle.glb.specs.declared.Checked.{Checked}
use Rattle.glb.specs.Check.{check_of}
use Rattle.lines.specs.Report.{report_of, too_long}

-- the lines on a file that was checked
unfoldable pub lines_of : Checked → List ℕ
lines_of c = report_of c.verdict c.item c.tables.views c.tables.accessors c.tables.nodes c.tables.scenes

-- to 65,536 bytes are checked; above that, the message
unfoldable pub answer_of : List ℕ → List ℕ
answer_of input = cond (ltb 65536 (length input)) too_long (lines_of (check_of input))

-- the bytes that were read are the first of the buffer
abbrev pub Within : {E : Type 0} → Result ℕ E → List ℕ → Type 0
Within (Ok n) buffer = n ≤ length buffer
Within (Err e) buffer = Unit {0}
