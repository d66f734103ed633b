use Rattle.std.proofs.Common.{◌/◌, ◌^◌, ◌∙◌, ap}
use Rattle.power_addr.specs.Pages.{page_of_address}
use Rattle.hpt_hash.specs.Entries.{rebuilt_offset}
use Rattle.hpt_hash.proofs.RebuiltPage.{rebuilt_offset-computed}
use Rattle.hpt_hash.proofs.entry.rebuilt.Goals as goal

pub returns-clause-page : goal.returns-clause-page
returns-clause-page c =
    let a = c.args in
    let held = c.held_offset_bits-held in
    c.of_address.ensures.page
    ∙ ap (page_of_address a.one_tb (a.number / 2 ^ held.result) a.shift)
    (rebuilt_offset-computed a.one_tb a.number a.shift a.low held.result held.ensures)
    ∙ ap
    (λ h.
    page_of_address a.one_tb (a.number / 2 ^ h) a.shift
    (rebuilt_offset a.one_tb a.number a.shift a.low)) held.ensures
