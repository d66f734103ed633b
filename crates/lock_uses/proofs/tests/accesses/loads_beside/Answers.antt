use Rattle.tlb_model.proofs.CachedPages.{all_empty}
use Rattle.lock_uses.proofs.tests.accesses.loads_beside.Goals as goal

pub access-first-requires : goal.access-first-requires
access-first-requires g c =
    record { seen = rw (c.requires) (all_empty (g.A.EntryStore.seen c.args.store.now)) }
