use Rattle.std.proofs.Common.{ℕ, ◌≤◌, ◌∙◌, Some, Option, ap, sym, option_map, arith}
use Rattle.entry_model.specs.declared.receipt.Receipt.{Receipt}
use Rattle.papr_uses.proofs.tables.entry_of_page.Goals as goal
use Rattle.hpte_fields.specs.TableSize.{least_order}

abbrev entry_in : Option Receipt → Option ℕ
entry_in found = option_map (λ (r : Receipt). r.entry) found

pub returns-in-Some : goal.returns-in-Some
returns-in-Some c =
    let low : least_order ≤ c.args.table.now.order = omega arith in
    ap (λ (r : Receipt). Some r.entry) c.in-Some.receipt-is
    ∙ sym (ap entry_in (sym c.walk-answer.ensures.found ∙ c.in-Some.is))
    ∙ c.walk_finds_first.ensures _ _ _ _ _ _ low c.vsid-vsid.ensures.in_range c.requires
    c.walk-answer.ensures.trial c.walk-answer.ensures.made.run

pub returns-in-None : goal.returns-in-None
returns-in-None c =
    let low : least_order ≤ c.args.table.now.order = omega arith in
    sym (ap entry_in (sym c.walk-answer.ensures.found ∙ c.in-None.is))
    ∙ c.walk_finds_first.ensures _ _ _ _ _ _ low c.vsid-vsid.ensures.in_range c.requires
    c.walk-answer.ensures.trial c.walk-answer.ensures.made.run
