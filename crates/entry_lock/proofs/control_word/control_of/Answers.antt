use Rattle.entry_lock.proofs.Bits.{control_is}
use Rattle.entry_lock.proofs.control_word.control_of.Goals as goal

pub returns-clause-means : goal.returns-clause-means
returns-clause-means c = control_is c.args.word
