use Rattle.std.proofs.Common.{◌∙◌, sym}
use Rattle.papr_uses.proofs.promises.OneProcessorKeptPromise.follows.Goals as goal

pub returns : goal.returns
returns c = λ t rs h cpu all.
    let serial = h.one cpu all in (
      serial,
      λ qs good. c.one_good_run.ensures t cpu qs h.assured.accepted all good ∙ sym serial,
    )
