use Rattle.std.proofs.Common.{◌<◌, subst}
use Rattle.hpte_fields.specs.TableSize.{entry_count}
use Rattle.dma_window.proofs.making.make.Goals as goal
use Rattle.dma_window.proofs.TcePlanCalls.{in_least}

pub apply-made-requires-clause-in_table : goal.apply-made-requires-clause-in_table
apply-made-requires-clause-in_table g c =
    subst (λ n. c.args.entry < entry_count n) c.order-order.ensures.value
    (in_least _ _ c.requires.in_window c.order-order.ensures.order.0)
