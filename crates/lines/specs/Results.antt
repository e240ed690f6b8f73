-- What the functions answer, by what is written. Assumes nothing: these are definitions.
use Rattle.std.specs.Prelude.{ℕ, cond, List, Option, None, Some}
use Rattle.lines.specs.declared.Summary.{Summary}
use Rattle.lines.specs.Report.{report_of, fits, count_in}

-- the report on a summary's numbers
unfoldable pub report_on : Summary → List ℕ
report_on s = report_of s.verdict s.item s.views s.accessors s.nodes s.scenes

-- how many bytes are written, and None where the lent list has no room for the text
unfoldable pub placed_in : List ℕ → List ℕ → Option ℕ
placed_in text list = cond (fits text list) (Some (count_in text list)) None
