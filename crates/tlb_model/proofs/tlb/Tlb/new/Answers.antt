use Rattle.tlb_model.proofs.Placed.{none_sound}
use Rattle.tlb_model.proofs.tlb.Tlb.new.Goals as goal

pub invariant_of-result : goal.invariant_of-result
invariant_of-result c = rw (c.no_lines.ensures) none_sound
