use Rattle.std.proofs.Common.{◌<◌, arith}
use Rattle.hpte_fields.specs.TableSize.{group_count}
use Rattle.hpt_resize.proofs.Groups.{slot_in_table}
use Rattle.hpt_resize.proofs.carry.target_index.Goals as goal
use Rattle.hpt_resize.proofs.carry.target_index.Goals.{then-secondary, else-secondary}

pub returns-clause-in_new_table : goal.returns-clause-in_new_table
returns-clause-in_new_table c =
    elim c.if-secondary.branch [
      | then-secondary w ↦
          let below : c.if-secondary.group < group_count c.args.order_to = omega
          (arith, w.group-is, c.groups-first.ensures.secondary_in_table) in
          slot_in_table c.args.order_to c.if-secondary.group c.args.index c.requires.to.0 below
      | else-secondary w ↦
          let below : c.if-secondary.group < group_count c.args.order_to = omega
          (arith, w.group-is, c.groups-first.ensures.primary_in_table) in
          slot_in_table c.args.order_to c.if-secondary.group c.args.index c.requires.to.0 below
    ]
