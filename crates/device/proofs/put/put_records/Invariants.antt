use mathlib.Core.Path.{◌≡◌}
use lib.ListN.{take}
use Rattle.std.specs.List.{All}
use Rattle.scene.specs.Steps.{written}
use Rattle.device.specs.Words.{rows}
use Rattle.device.proofs.put.put_records.Given as goal

abbrev pub invariant-loop-i : goal.invariant-loop-i
invariant-loop-i g l =
    (l.words ≡ written l.initial.words l.at (rows g.R.Record.words (take l.i l.records))) × All g.R.Record.fits (take l.i l.records)
