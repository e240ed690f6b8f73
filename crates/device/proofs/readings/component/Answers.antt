use borrow.Author.Tests.{leb-false}
use lib.Dec.{leb}
use lib.ListN.{get_or}
use Rattle.laws.proofs.Tests.{or_false}
use Rattle.access.specs.Readings.{component_of}
use Rattle.device.specs.Words.{tables_of}
use Rattle.device.proofs.readings.component.Goals as goal

pub returns-then-words-accessor : goal.returns-then-words-accessor
unfolding component_of tables_of
returns-then-words-accessor c = rw c.if-words-accessor.true

pub selection-s-requires : goal.selection-s-requires
selection-s-requires c =
    let a = c.args in
    leb-false 128 a.accessor
    (or_false (leb (get_or a.words.now 2 0) a.accessor) (leb 128 a.accessor) c.if-words-accessor.false).1

pub returns : goal.returns
unfolding component_of tables_of
returns c =
    rw (c.component_in.ensures, c.selection-s.ensures, c.if-words-accessor.false)
