use mathlib.Core.Path.{sym}
use Rattle.container.proofs.Chunks.{whole_short, whole_long}
use Rattle.container.proofs.is_whole.Goals as goal

pub returns-then-left-lt8 : goal.returns-then-left-lt8
returns-then-left-lt8 c = let a = c.args in sym (whole_short a.file.now a.at c.if-left-lt8.true)

pub returns : goal.returns
returns c = let a = c.args in rw c.word-data.ensures (sym (whole_long a.file.now a.at c.if-left-lt8.false))
