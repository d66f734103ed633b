use Rattle.run_model.proofs.CachesUsed.{accesses_use_caches}
use Rattle.run_model.proofs.laws.cached_lines_are_current_or_gone.Goals as goal

pub returns : goal.returns
returns c = accesses_use_caches
