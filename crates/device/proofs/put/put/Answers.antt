use mathlib.Core.Path.{ap, ◌∙◌}
use Rattle.device.specs.Words.{tables_of}
use Rattle.device.proofs.Exact.{read_written}
use Rattle.device.proofs.put.put.Goals as goal

pub returns : goal.returns
returns c =
    let e = c.put_all.ensures in
    (e.0, ap tables_of e.0 ∙ read_written _ e.1)
