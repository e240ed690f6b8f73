use Rattle.device.specs.Words.{view_words}
use Rattle.device.proofs.Bits.{bit_is}
use Rattle.device.proofs.put.BufferViewRecord8.words.Goals as goal

pub returns-clause-words : goal.returns-clause-words
unfolding view_words
returns-clause-words c = rw (c.from.ensures, bit_is c.args.self.has_byte_stride, c.from-2.ensures, bit_is c.args.self.has_target)
