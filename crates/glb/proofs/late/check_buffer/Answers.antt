-- `glb::late::check_buffer` meets its contract. Assumes nothing.
use borrow.Author.Tests.{eq-eqb, ne_eqb}
use Rattle.container.specs.Results.{record_of}
use Rattle.glb.specs.Check.{buffer_finding}
use Rattle.glb.proofs.late.check_buffer.Goals as goal

pub returns-then-buffers-eq0 : goal.returns-then-buffers-eq0
unfolding buffer_finding
returns-then-buffers-eq0 c = rw (eq-eqb _ 0 c.if-buffers-eq0.true)

pub returns-in-Some : goal.returns-in-Some
unfolding buffer_finding record_of
returns-in-Some c = rw (c.in-Some.is, ne_eqb _ 0 c.if-buffers-eq0.false) c.buffer_rule.ensures

pub returns-in-None : goal.returns-in-None
unfolding buffer_finding record_of
returns-in-None c = rw (c.in-None.is, ne_eqb _ 0 c.if-buffers-eq0.false) c.buffer_rule-in-None.ensures
