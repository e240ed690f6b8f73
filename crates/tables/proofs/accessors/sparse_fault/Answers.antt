use native.Mathlib.Omega.{arith}
use Rattle.tables.proofs.accessors.sparse_fault.Goals as goal

pub returns-then-s-a : goal.returns-then-s-a
returns-then-s-a c =
    rw (c.requires, c.if-s-a.true)

pub returns-then-views-s : goal.returns-then-views-s
returns-then-views-s c =
    rw (c.requires, c.if-s-a.false, c.if-views-s.true)

pub returns-then-shaped : goal.returns-then-shaped
returns-then-shaped c =
    rw (c.requires, c.if-s-a.false, c.if-views-s.false, c.if-shaped.true)

pub returns-then-s : goal.returns-then-s
returns-then-s c =
    rw (c.requires, c.if-s-a.false, c.if-views-s.false, c.if-shaped.false, c.if-s.true)

pub returns : goal.returns
returns c =
    rw (c.requires, c.if-s-a.false, c.if-views-s.false, c.if-shaped.false, c.if-s.false) (omega (arith, c.packed_fault.ensures))
