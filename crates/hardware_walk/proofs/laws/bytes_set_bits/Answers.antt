use Rattle.hardware_walk.proofs.Bytes.{bytes}
use Rattle.hardware_walk.proofs.laws.bytes_set_bits.Goals as goal

pub returns : goal.returns
returns c = bytes
