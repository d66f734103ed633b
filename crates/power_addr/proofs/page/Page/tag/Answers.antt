use Rattle.std.proofs.Common.{ap, ◌∙◌}
use Rattle.power_addr.specs.Pages.{tag_of}
use Rattle.power_addr.proofs.Tags.{tag_of-computed}
use Rattle.power_addr.proofs.page.Page.tag.Goals as goal

pub returns-clause-value : goal.returns-clause-value
returns-clause-value c =
    tag_of-computed _ c.from.result c.offset_bits_of.result c.from-2.result c.segment_code.result
    c.self.invariant c.from.ensures c.offset_bits_of.ensures c.from-2.ensures
    c.segment_code.ensures
    ∙ ap tag_of c.self.view_is
