-- `lines::pieces::put` meets its contract. Assumes nothing.
use Rattle.lines.proofs.Stores.{copied}
use Rattle.lines.proofs.pieces.put.Goals as goal

pub returns : goal.returns
returns c =
    let a = c.args in
    copied a.out.now a.word.now c.copy_from_slice.new.self a.at c.requires c.copy_from_slice.ensures.after
