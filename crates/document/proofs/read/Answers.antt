-- `document::read` meets its contract. Assumes nothing.
use mathlib.Core.Path.{◌≡◌}
use native.Mathlib.Omega.{arith}
use Rattle.std.specs.Prelude.{Ok}
use Rattle.std.proofs.lemmas.Grind.{common_steps}
use Rattle.text.specs.Rules.{text_of}
use Rattle.text.specs.Results.{outcome_of}
use Rattle.document.proofs.Reading.{read_said}
use Rattle.document.proofs.read.Goals as goal

pub returns : goal.returns
returns c =
    let s = c.args.chunk.now in
    let e : outcome_of (text_of s) ≡ Ok tt = grind (arith, common_steps) in
    read_said s e (λ j k. c.top.ensures j (rw c.start.ensures k))
