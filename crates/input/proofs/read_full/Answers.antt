use borrow.Author.Rules.{rules}
use Rattle.std.proofs.Common.{length, ◌-◌, subst}
use Rattle.std.specs.Io.KnownBytes.{Consumes}
use Rattle.std.proofs.KnownBytes.{Consumes-trans}
use Rattle.input.proofs.Reading.{behind}
use Rattle.input.proofs.read_full.Goals as goal

pub loop-n-preserved : goal.loop-n-preserved
loop-n-preserved g c =
    let at = c.loop-n.n in
    let e = behind at (length c.loop-n.buffer - at) c.in_ok-more.more c.loop-n.buffer c.read.new.buf c.loop-n.invariant.0 c.in_ok-more.ensures.bound.0 in
    (search rules, subst (Consumes _ _) e (Consumes-trans _ _ _ _ _ c.loop-n.invariant.1 c.in_ok-more.ensures.bytes.0))
