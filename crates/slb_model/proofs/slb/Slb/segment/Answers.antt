use Rattle.std.proofs.Common.{◌∙◌, sym}
use Rattle.slb_model.specs.Slots.{covers}
use Rattle.slb_model.specs.Buffer.{valid_slots}
use Rattle.slb_model.proofs.Buffers.{none_passes, one_passes}
use Rattle.slb_model.proofs.slb.Slb.segment.Goals as goal

pub returns-in_err-lowest-clause-found : goal.returns-in_err-lowest-clause-found
returns-in_err-lowest-clause-found c =
    let none = none_passes (covers c.args.ea) (valid_slots c.args.self.now)
    c.in_err-lowest.ensures.value in
    rw (c.from_residual.ensures) (sym none)

pub returns-clause-found : goal.returns-clause-found
returns-clause-found c =
    let one = one_passes (covers c.args.ea) (valid_slots c.args.self.now) c.in_ok-lowest.field-0
    c.in_ok-lowest.ensures.value in
    c.segment_at.ensures.found ∙ sym one
