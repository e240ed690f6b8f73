use borrow.Author.Tests.{lt-ltb, le-ltb}
use Rattle.tables.proofs.selection.elements_unfit.Goals as goal

pub returns-then-l : goal.returns-then-l
returns-then-l c = rw (lt-ltb _ _ c.if-l.true)

pub returns-then-past : goal.returns-then-past
returns-then-past c = rw (le-ltb _ _ c.if-l.false, ← c.is_past-past.ensures, c.if-past.true)

pub is_unaligned-requires : goal.is_unaligned-requires
is_unaligned-requires c = c.requires

pub returns : goal.returns
returns c =
    rw (
      le-ltb _ _ c.if-l.false,
      ← c.is_past-past.ensures,
      c.if-past.false,
      c.is_unaligned.ensures,
    )
