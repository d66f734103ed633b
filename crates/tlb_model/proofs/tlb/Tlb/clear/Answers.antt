use Rattle.tlb_model.proofs.Placed.{none_sound}
use Rattle.tlb_model.proofs.tlb.Tlb.clear.Goals as goal

pub invariant_of-self : goal.invariant_of-self
invariant_of-self c = rw (c.no_lines-self-inside.ensures) none_sound
