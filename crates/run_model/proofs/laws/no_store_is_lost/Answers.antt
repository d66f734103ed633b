use Rattle.run_model.proofs.StoresKept.{no_store_is_lost}
use Rattle.run_model.proofs.laws.no_store_is_lost.Goals as goal

pub returns : goal.returns
returns c = no_store_is_lost
