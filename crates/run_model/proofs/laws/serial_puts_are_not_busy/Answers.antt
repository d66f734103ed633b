use Rattle.run_model.proofs.BusyLines.{serial_puts_are_not_busy}
use Rattle.run_model.proofs.laws.serial_puts_are_not_busy.Goals as goal

pub returns : goal.returns
returns c = serial_puts_are_not_busy
