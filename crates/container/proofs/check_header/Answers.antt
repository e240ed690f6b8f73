use native.Mathlib.Omega.{arith}
use lib.ListN.{length}
use borrow.Author.Tests.{lt-ltb, le-ltb, eq-eqb, ne_eqb}
use Rattle.container.specs.Rules.{header_rows}
use Rattle.container.specs.Results.{header_outcome}
use Rattle.container.proofs.check_header.Goals as goal

pub returns-then-size-lt20 : goal.returns-then-size-lt20
unfolding header_outcome header_rows
returns-then-size-lt20 c = rw (lt-ltb _ _ c.if-size-lt20.true)

pub returns-then-size-gt16777216 : goal.returns-then-size-gt16777216
unfolding header_outcome header_rows
returns-then-size-gt16777216 c = rw (le-ltb _ _ c.if-size-lt20.false, lt-ltb _ _ c.if-size-gt16777216.true)

pub returns-then-word-ne1179937895 : goal.returns-then-word-ne1179937895
unfolding header_outcome header_rows
returns-then-word-ne1179937895 c = rw (le-ltb _ _ c.if-size-lt20.false, le-ltb 16777216 (length c.args.file.now) (omega arith), ← c.word.ensures, ne_eqb _ _ c.if-word-ne1179937895.true)

pub returns-then-word-ne2 : goal.returns-then-word-ne2
unfolding header_outcome header_rows
returns-then-word-ne2 c = rw (le-ltb _ _ c.if-size-lt20.false, le-ltb 16777216 (length c.args.file.now) (omega arith), ← c.word.ensures, eq-eqb _ _ c.if-word-ne1179937895.false, ← c.word-2.ensures, ne_eqb _ _ c.if-word-ne2.true)

pub returns-then-word-size : goal.returns-then-word-size
unfolding header_outcome header_rows
returns-then-word-size c = rw (le-ltb _ _ c.if-size-lt20.false, le-ltb 16777216 (length c.args.file.now) (omega arith), ← c.word.ensures, eq-eqb _ _ c.if-word-ne1179937895.false, ← c.word-2.ensures, eq-eqb _ _ c.if-word-ne2.false, ← c.word-3.ensures, ne_eqb _ _ c.if-word-size.true)

pub returns : goal.returns
unfolding header_outcome header_rows
returns c = rw (le-ltb _ _ c.if-size-lt20.false, le-ltb 16777216 (length c.args.file.now) (omega arith), ← c.word.ensures, eq-eqb _ _ c.if-word-ne1179937895.false, ← c.word-2.ensures, eq-eqb _ _ c.if-word-ne2.false, ← c.word-3.ensures, eq-eqb _ _ c.if-word-size.false)
