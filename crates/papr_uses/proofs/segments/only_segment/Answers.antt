use Rattle.std.proofs.Common.{◌∙◌, List, Option, ap}
use Rattle.std.specs.List.{list_any}
use Rattle.slb_model.specs.declared.slot.Slot.{Slot}
use Rattle.slb_model.specs.Slots.{covers}
use Rattle.slb_model.specs.Buffer.{slots_after, valid_slots}
use Rattle.papr_uses.proofs.OneSegment.{written}
use Rattle.papr_uses.proofs.segments.only_segment.Goals as goal

pub returns-clause-segment : goal.returns-clause-segment
returns-clause-segment c =
    c.segment.ensures.found
    ∙ ap (λ (slots : List (Option Slot)). list_any (covers c.args.ea) (valid_slots slots))
    (c.in_ok-mte.ensures.ok
    ∙ ap (λ (slots : List (Option Slot)). slots_after slots c.args.rb c.args.rs)
    c.clear.ensures)
    ∙ written c.args.rb c.args.rs c.args.ea c.in_ok-mte.ensures.told
