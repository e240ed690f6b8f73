-- `names::first_repeat` meets its contract.
-- Assumes nothing.
use borrow.Author.Tests.{lt-ltb, le-ltb}
use Rattle.names.specs.Names.{repeat_of}
use Rattle.names.proofs.first_repeat.Goals as goal

pub returns-then-s-gt65536 : goal.returns-then-s-gt65536
unfolding repeat_of
returns-then-s-gt65536 c = rw (lt-ltb 65536 _ c.if-s-gt65536.true)

pub returns : goal.returns
unfolding repeat_of
returns c =
    rw (le-ltb 65536 _ c.if-s-gt65536.false)
    c.search_names.ensures
