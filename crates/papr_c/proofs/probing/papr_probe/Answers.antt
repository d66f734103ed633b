use Rattle.std.proofs.Common.{Some, None, rules, sym, ◌∙◌}
use Rattle.papr_c.proofs.Outcomes.{calls_inside}
use Rattle.papr_c.proofs.FoundAsIs.{probe_is}
use Rattle.c_layout.specs.Entries.{states_of}
use Rattle.papr_c.proofs.probing.papr_probe.Goals as goal

pub find-requires-clause-in_table : goal.find-requires-clause-in_table
find-requires-clause-in_table c =
    calls_inside c.args.order (states_of c.args.entries.now) _ (search rules)
    c.of-calls.ensures.fits

pub find-requires-clause-few : goal.find-requires-clause-few
find-requires-clause-few c = c.of-calls.ensures.fits.few

pub returns-in-Some : goal.returns-in-Some
returns-in-Some c =
    probe_is c.args.order c.args.access.now c.in-Some-Some.page c.in-Some-Some.want
    (states_of c.args.entries.now) _ (Some c.in-Some.receipt) c.end.result
    (search rules)
    (search rules)
    (search rules)
    (rw c.masks-masks.ensures at c.of-calls.ensures.calls)
    (sym c.in-Some.is ∙ c.find.ensures)
    c.end.ensures

pub returns-in-None : goal.returns-in-None
returns-in-None c =
    probe_is c.args.order c.args.access.now c.in-Some-Some.page c.in-Some-Some.want
    (states_of c.args.entries.now) _ None c.no_entry.result
    (search rules)
    (search rules)
    (search rules)
    (rw c.masks-masks.ensures at c.of-calls.ensures.calls)
    (sym c.in-None.is ∙ c.find.ensures)
    c.no_entry.ensures
