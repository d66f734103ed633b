use Rattle.dma_window.proofs.Landings.{lands_where}
use Rattle.dma_window.proofs.laws.permitted_accesses_land.Goals as goal

pub returns : goal.returns
returns c = lands_where
