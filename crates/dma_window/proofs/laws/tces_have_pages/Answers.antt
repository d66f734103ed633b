use Rattle.dma_window.proofs.TceCalls.{tce_calls}
use Rattle.dma_window.proofs.laws.tces_have_pages.Goals as goal

pub returns : goal.returns
returns c = tce_calls
