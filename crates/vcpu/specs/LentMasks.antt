-- The masks of a processor, lent to whoever sets them.
use Rattle.std.specs.Borrow.{Lends, MutBor, Fml}
use Rattle.authority_mask.specs.declared.masks.Masks.{Masks}
use Rattle.authority_mask.specs.contracts.masks.Masks.{the_row as masks_row}
use Rattle.tlb_model.specs.Processor.{Processor}
use Rattle.vcpu.specs.contracts.cpu.Cpu.{the_row as cpu_row}

-- The processor with these masks.
abbrev pub with_masks : Processor → Masks → Processor
with_masks p masks = record p { masks = masks }

-- The processor ends with the masks that were left after the reference.
abbrev pub LendsMasks : MutBor Processor → MutBor Masks → Fml
LendsMasks p masks = Lends cpu_row masks_row p masks (with_masks p.now)
