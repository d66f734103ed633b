use Rattle.tlb_model.proofs.CachedPages.{all_empty}
use Rattle.lock_uses.proofs.tests.threads.store_often.Goals as goal

pub loop-init : goal.loop-init
loop-init g c = rw (c.requires) (all_empty (g.T.EntryStore.seen c.args.store.now))
