use Rattle.std.proofs.Common.{◌*◌, arith}
use Rattle.entry_model.proofs.TrialSteps.{calls_from}
use Rattle.entry_model.proofs.CallRows.{row_in, both_in}
use Rattle.hpte_fields.proofs.TableSizes.{groups_few}
use Rattle.hpt_walk.proofs.Walks.{group_in_table}
use Rattle.hpt_walk.proofs.page_calls.PageCalls.of.Goals as goal

pub invariant_of-result : goal.invariant_of-result
invariant_of-result c =
    let few = c.requires.order in
    let groups = c.groups-primary.ensures in record {
      primary_small = groups_few _ _ groups.primary_in_table few;
      secondary_small = groups_few _ _ groups.secondary_in_table few;
    }

pub returns-clause-fits : goal.returns-clause-fits
returns-clause-fits c =
    let order = c.args.order in
    let primary = c.groups-primary.result.0 * 8 in
    let secondary = c.groups-primary.result.1 * 8 in
    both_in order (calls_from c.access_op.result primary 8)
    (calls_from c.access_op-2.result secondary 8)
    (row_in order c.access_op.result primary 8
    (group_in_table order _ c.requires.order.0 c.groups-primary.ensures.primary_in_table)
    c.access_op.ensures.normal (omega arith))
    (row_in order c.access_op-2.result secondary 8
    (group_in_table order _ c.requires.order.0 c.groups-primary.ensures.secondary_in_table)
    c.access_op-2.ensures.normal (omega arith))
    (omega arith)
