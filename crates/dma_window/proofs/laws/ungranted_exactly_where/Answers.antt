use Rattle.dma_window.proofs.Ungranted.{ungranted_where}
use Rattle.dma_window.proofs.laws.ungranted_exactly_where.Goals as goal

pub returns : goal.returns
returns c = ungranted_where
