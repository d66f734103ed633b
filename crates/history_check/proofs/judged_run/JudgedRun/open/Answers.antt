use Rattle.std.proofs.Common.{ap, ◌∙◌, map, replicate, sym, subst}
use Rattle.tlb_model.specs.Processor.{new_processor}
use Rattle.run_model.specs.Stores.{page_table}
use Rattle.run_model.specs.AllStores.{table_store, opened}
use Rattle.partition.specs.PartitionState.{opening_partition}
use Rattle.trace_read.specs.Configuration.{NumbersDiffer}
use Rattle.history_check.proofs.DealtParts.{opened_windows}
use Rattle.history_check.proofs.judged_run.JudgedRun.open.Goals as goal

pub invariant_of-result : goal.invariant_of-result
invariant_of-result c = (
  c.in_ok-partition.ensures.has_states,
  subst NumbersDiffer
      (sym
      (opened_windows c.as_slice.result.now c.in_ok-windows.windows.items
      c.in_ok-windows.ensures))
      (subst NumbersDiffer (sym c.as_slice.ensures.items) c.as_slice.ensures.windows.differ),
)

pub returns : goal.returns
unfolding page_table opening_partition
returns c =
    let processors = c.in_ok-processors.ensures ∙ ap (λ n. replicate n new_processor)
    (ap (λ config. config.cpus) c.config.view_is) in
    let windows = c.in_ok-windows.ensures ∙ ap (map opened)
    (c.as_slice.ensures.items ∙ ap (λ config. config.windows) c.config.view_is) in
    λ i.
    record {
      table =
          table_store (c.in_ok-partition.ensures.ok i).granted.grants
          (c.in_ok-partition.ensures.ok i).memory (processors i);
      windows = windows i;
    }
