use Rattle.entry_lock.proofs.BitsAndFronts.{bits_stand}
use Rattle.entry_lock.proofs.laws.raised_bits_stand.Goals as goal

pub returns : goal.returns
returns c = bits_stand
