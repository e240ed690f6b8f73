use borrow.Author.Rules.{rules}
use Rattle.tables.specs.Fitness.{extent_of}
use Rattle.device.specs.Words.{tables_of}
use Rattle.device.proofs.records.extent.Goals as goal

pub returns : goal.returns
unfolding extent_of tables_of
returns c = search rules
