-- `lines::pieces::width` meets its contract. Assumes nothing.
use Rattle.lines.proofs.Digits.{width_log}
use Rattle.lines.proofs.pieces.width.Goals as goal

pub returns : goal.returns
returns c =
    let l = c.checked_ilog10 in
    width_log c.args.n l.result c.unwrap_or-tens.result c.ranges.n.fits l.ensures.none l.ensures.power_le l.ensures.next_power_gt c.unwrap_or-tens.ensures
