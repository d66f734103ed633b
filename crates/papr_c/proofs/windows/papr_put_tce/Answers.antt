use Rattle.std.proofs.Common.{[], ap, sym, ◌∙◌}
use Rattle.dma_window.specs.Calls.{put_plan_at, put_tce_plan}
use Rattle.papr_c.specs.Calls.{memory}
use Rattle.c_layout.specs.Grants.{listed}
use Rattle.papr_c.proofs.Tces.{no_page, has_page}
use Rattle.c_layout.specs.Entries.{states_of}
use Rattle.c_layout.proofs.Marks.{marked_none}
use Rattle.papr_c.proofs.windows.papr_put_tce.Goals as goal

pub returns-in_default-clause-told : goal.returns-in_default-clause-told
unfolding put_tce_plan
returns-in_default-clause-told c =
    let m = memory (states_of c.args.entries.now) [] c.args.receipts.now in
    let grants = listed c.args.grants.now.grants c.args.grants.now.count in
    ap (λ reply. (reply, m)) c.refused.ensures
    ∙ no_page c.args.base c.args.ioba m (put_plan_at grants c.args.tce)
    (sym c.entry_of.ensures.entry ∙ c.in_default.is)

pub returns-clause-told : goal.returns-clause-told
unfolding put_tce_plan
returns-clause-told c =
    let m = memory (states_of c.args.entries.now) [] c.args.receipts.now in
    let grants = listed c.args.grants.now.grants c.args.grants.now.count in
    c.put_at.ensures.told
    ∙ has_page c.args.base c.args.ioba c.in-Some.entry m (put_plan_at grants c.args.tce)
    (sym c.entry_of.ensures.entry ∙ c.in-Some.is)

pub returns-in_default-clause-marks : goal.returns-in_default-clause-marks
returns-in_default-clause-marks c = marked_none c.args.entries.now

pub returns-clause-marks : goal.returns-clause-marks
returns-clause-marks c = c.put_at.ensures.marks
