use Rattle.device.specs.Words.{list_words}
use Rattle.device.proofs.put.ListRecord2.words.Goals as goal

pub returns-clause-words : goal.returns-clause-words
unfolding list_words
returns-clause-words c = rw (c.from.ensures, c.from-2.ensures)
