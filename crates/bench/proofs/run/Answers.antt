use borrow.Author.Rules.{rules}
use Rattle.bench.proofs.Reading.{replied}
use Rattle.bench.proofs.run.Goals as goal

pub returns : goal.returns
returns g c =
    let r = c.read_input in
    let m = c.map_err in
    replied _ _ _ _ r.new.buffer r.result m.result c.in_ok-n.n c.respond.result c.map_err-2.result
    (search rules)
    m.ensures.variant
    _
    m.ensures.cases
    c.in_ok-n.was
    r.ensures.within
    r.ensures.bytes
    r.ensures.end
    c.respond.ensures
    c.map_err-2.ensures.variant
