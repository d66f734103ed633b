-- What a processor keeps from one line of a trace to the next: its segments, its authority masks,
-- and its cached translations.
use Rattle.std.specs.Prelude.{List, Option}
use Rattle.slb_model.specs.declared.slot.Slot.{Slot}
use Rattle.slb_model.specs.Buffer.{no_slots}
use Rattle.entry_model.specs.declared.line.Line.{Line}
use Rattle.tlb_model.specs.Cache.{empty_cache}
use Rattle.authority_mask.specs.declared.masks.Masks.{Masks}
use Rattle.authority_mask.specs.Authority.{no_masks}

-- The 32 slots of its segment lookaside buffer, its masks, and the sets of its cache of
-- translations.
pub record Processor : Type 0 where
  pub slots : List (Option Slot)
  pub masks : Masks
  pub cache : List (List Line)

-- No segment, masks that refuse nothing, and no cached translation.
unfoldable pub new_processor : Processor
new_processor = record { slots = no_slots; masks = no_masks; cache = empty_cache }

-- A processor that has forgotten its cached translations.
abbrev pub without_cache : Processor → Processor
without_cache processor = record processor { cache = empty_cache }
