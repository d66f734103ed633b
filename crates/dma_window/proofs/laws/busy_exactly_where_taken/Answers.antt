use Rattle.dma_window.proofs.BusyCalls.{busy_exactly}
use Rattle.dma_window.proofs.laws.busy_exactly_where_taken.Goals as goal

pub returns : goal.returns
returns c = busy_exactly
