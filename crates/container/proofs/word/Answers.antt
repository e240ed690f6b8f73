use native.Mathlib.Omega.{arith}
use mathlib.Core.Path.{◌∙◌}
use Rattle.laws.proofs.Bytes.{little_at_four}
use Rattle.container.proofs.word.Goals as goal

pub returns : goal.returns
returns c =
    let a = c.args in
    c.from_le_bytes.ensures ∙ rw (little_at_four a.file.now a.at) (omega arith)
