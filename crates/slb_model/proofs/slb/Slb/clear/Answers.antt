use Rattle.std.proofs.Common.{refl}
use Rattle.slb_model.specs.Buffer.{no_slots}
use Rattle.slb_model.proofs.Buffers.{no_slots_sound}
use Rattle.slb_model.proofs.slb.Slb.clear.Goals as goal

pub invariant_of-self : goal.invariant_of-self
unfolding no_slots
invariant_of-self c = no_slots_sound

pub returns : goal.returns
unfolding no_slots
returns c = refl
