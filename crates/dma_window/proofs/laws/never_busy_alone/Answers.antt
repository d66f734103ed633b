use Rattle.dma_window.proofs.Alone.{never_busy}
use Rattle.dma_window.proofs.laws.never_busy_alone.Goals as goal

pub returns : goal.returns
returns c = never_busy
