use Rattle.device.specs.Words.{accessor_words}
use Rattle.device.proofs.Bits.{bit_is}
use Rattle.device.proofs.put.AccessorRecord16.words.Goals as goal

pub returns-clause-words : goal.returns-clause-words
unfolding accessor_words
returns-clause-words c = rw (c.from.ensures, bit_is c.args.self.has_buffer_view, c.from-2.ensures, bit_is c.args.self.normalized, c.from-3.ensures, bit_is c.args.self.has_sparse)
