use Rattle.std.proofs.Common.{◌≡◌}
use Rattle.tlb_model.specs.Processor.{new_processor}
use Rattle.tlb_model.proofs.ProcessorLists.{empty_more}
use Rattle.vcpu.proofs.cpus.empty_cpus.Goals as goal

pub loop-preserved : goal.loop-preserved
unfolding new_processor
loop-preserved c =
    let fresh : c.new.result ≡ new_processor = λ i. record {
      slots = c.new.ensures.slots i;
      masks = c.new.ensures.masks i;
      cache = c.new.ensures.cache i;
    } in
    rw c.in_ok-push.ensures.items
    (empty_more c.loop.cpus.items c.loop.counter c.new.result c.loop.invariant fresh)
