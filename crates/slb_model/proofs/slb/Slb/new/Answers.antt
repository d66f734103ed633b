use Rattle.std.proofs.Common.{refl}
use Rattle.slb_model.specs.Buffer.{no_slots}
use Rattle.slb_model.proofs.Buffers.{no_slots_sound}
use Rattle.slb_model.proofs.slb.Slb.new.Goals as goal

pub invariant_of-result : goal.invariant_of-result
unfolding no_slots
invariant_of-result c = no_slots_sound

pub returns : goal.returns
unfolding no_slots
returns c = refl
