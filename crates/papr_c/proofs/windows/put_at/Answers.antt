use Rattle.std.specs.Prelude.{◌||◌}
use Rattle.std.proofs.Common.{◌≡◌, [], true, false, refl, ap, ◌∙◌, arith}
use Rattle.papr_codes.specs.declared.codes.Rc.TheVariants.{Parameter}
use Rattle.entry_model.specs.Trial.{Plan, plan_of_code}
use Rattle.dma_window.specs.Calls.{put_plan_at}
use Rattle.dma_window.specs.Entries.{address_of, permits}
use Rattle.dma_window.specs.Pages.{is_ram}
use Rattle.papr_c.specs.Calls.{memory, outcome_where}
use Rattle.c_layout.specs.Grants.{listed}
use Rattle.papr_c.proofs.Outcomes.{coded}
use Rattle.c_layout.proofs.Marks.{marked_none}
use Rattle.c_layout.specs.Entries.{states_of}
use Rattle.papr_c.proofs.windows.put_at.Goals as goal

pub returns-then-not-is_ram-clause-told : goal.returns-then-not-is_ram-clause-told
returns-then-not-is_ram-clause-told c =
    let m = memory (states_of c.args.entries.now) [] c.args.receipts.now in
    let grants = listed c.args.grants.now.grants c.args.grants.now.count in
    let any : (permits c.args.tce false || permits c.args.tce true) ≡ true = grind
    (arith, c.permits_any.ensures, c.if-not-permits_any.false) in
    let ram : is_ram grants (address_of c.args.tce) ≡ false = grind
    (arith, c.is_ram.ensures, c.if-not-is_ram.true) in
    let plan : plan_of_code Parameter ≡ put_plan_at grants c.args.tce c.args.entry = rw (any, ram)
    refl in
    ap (λ reply. (reply, m)) c.refused.ensures
    ∙ coded true Parameter m refl
    ∙ ap (λ (p : Plan). outcome_where true p m) plan

pub returns-then-not-is_ram-clause-marks : goal.returns-then-not-is_ram-clause-marks
returns-then-not-is_ram-clause-marks c = marked_none c.args.entries.now
