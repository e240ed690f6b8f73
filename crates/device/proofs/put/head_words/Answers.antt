use Rattle.device.specs.Words.{head_words}
use Rattle.device.proofs.Bits.{bit_is}
use Rattle.device.proofs.put.head_words.Goals as goal

pub returns : goal.returns
unfolding head_words
returns c = rw (c.from.ensures, bit_is c.args.t.now.has_scene)
