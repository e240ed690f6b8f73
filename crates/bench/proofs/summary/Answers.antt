-- `bench::summary` meets its contract. Assumes nothing.
use mathlib.Core.Path.{refl}
use Rattle.tables.specs.Records.{empty_tables}
use Rattle.glb.specs.Results.{checked_of}
use Rattle.lines.specs.Results.{report_on}
use Rattle.bench.specs.Bench.{lines_of}
use Rattle.bench.proofs.summary.Goals as goal

pub returns-in-Ok : goal.returns-in-Ok
unfolding report_on lines_of checked_of
returns-in-Ok c = rw c.in-Ok.is refl

pub returns-in-Err : goal.returns-in-Err
unfolding report_on lines_of checked_of empty_tables
returns-in-Err c = let h = c.default.ensures in rw (c.in-Err.is, h.1.1.0, h.1.1.1.0, h.1.1.1.1.0, h.1.1.1.1.1) refl
