use Rattle.std.proofs.Common.{[], rules}
use Rattle.tlb_model.proofs.Placed.{empty_sets}
use Rattle.tlb_model.proofs.tlb.no_lines.Goals as goal

pub returns : goal.returns
returns c =
    empty_sets c.from_fn.result c.from_fn.ensures.items.long
    (λ number less.
    let (p, q, call) = c.from_fn.ensures.items.at number [] less in search rules)
