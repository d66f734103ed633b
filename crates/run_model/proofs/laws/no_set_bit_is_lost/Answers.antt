use Rattle.run_model.proofs.StoresKept.{no_set_bit_is_lost}
use Rattle.run_model.proofs.laws.no_set_bit_is_lost.Goals as goal

pub returns : goal.returns
returns c = no_set_bit_is_lost
