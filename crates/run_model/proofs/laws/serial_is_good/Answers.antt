use Rattle.run_model.proofs.StoreSerial.{serial_good}
use Rattle.run_model.proofs.laws.serial_is_good.Goals as goal

pub returns : goal.returns
returns c = serial_good
