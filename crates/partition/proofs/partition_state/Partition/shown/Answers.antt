use Rattle.std.proofs.Common.{ap, sym, ◌∙◌, length}
use Rattle.hpte_fields.specs.TableSize.{entry_count}
use Rattle.partition.specs.PartitionState.{PartitionState}
use Rattle.hpte_fields.proofs.TableSizes.{entries_few}
use Rattle.partition.proofs.partition_state.Partition.shown.Goals as goal

pub of_table-requires : goal.of_table-requires
of_table-requires c =
    entries_few _ _
    (ap length c.as_slice.ensures.value
    ∙ ap (λ (p : PartitionState). length p.memory.table.states) c.self.view_is
    ∙ c.requires
    ∙ ap (λ (p : PartitionState). entry_count p.memory.table.order) (sym c.self.view_is))
    c.self.invariant.order_fits
