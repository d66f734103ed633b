use Rattle.tlb_model.specs.Cache.{AllCached}
use Rattle.lock_uses.proofs.tests.threads.store_often.Given as goal

abbrev pub invariant-loop : goal.invariant-loop
invariant-loop g l = AllCached (g.T.EntryStore.seen l.store) l.cpu.cache
