use Rattle.hardware_walk.proofs.Later.{later}
use Rattle.hardware_walk.proofs.laws.receipts_come_later.Goals as goal

pub returns : goal.returns
returns c = later
